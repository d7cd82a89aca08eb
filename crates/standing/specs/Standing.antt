-- What holds at each point of interning an accepted forest: before a tree is read (`Well`), before the operands of a
-- record are read (`WellAll`), and of what has been read (`Result`, `AllRead`).
-- In order: a state, seen from a scope with ids bound; trees that may be read; results.
-- The laws in proofs/ lead from each point to the next; none asks for more of `theory` than these records hold.
-- Assumes nothing.
use Rattle.std.specs.Prelude.{◌≡◌, Bool, List, ℕ, ◌+◌, ◌≤◌, ◌<◌, length}
use Rattle.regions.specs.Regions.{SLOTS}
use Rattle.model.specs.Tree.{Tree, Trees, many}
use Rattle.model.specs.Intern.{Sym, Scope, State, Env, sym_at}
use Rattle.laws.specs.Members.{In, Every}
use Rattle.interner.specs.Levels.{Bound, InForce}
use Rattle.theory.specs.Checked.{Checked, CheckedIn}
use Rattle.theory.specs.Good.{sym_count, scope_count}
use Rattle.theory.specs.Inv.{Args, arg_syms, keys, Inv, EnvOk, Fits, Grow}
use Rattle.laws.specs.Slots.{slots_in}
use Rattle.theory.specs.Sound.{StateSound, Room, Pays, Any}

-- ---- a state, seen from scope `cur` with ids bound

pub record Standing (cur : ℕ) (env : Env) (st : State) : Type 0 where
  -- the arguments in force, ids with symbols
  pub args : Args
  pub sound : StateSound Any st
  pub current : cur < scope_count st
  -- whatever symbols and scopes come after those of the state
  pub inv : (fin : List Sym) (scs : List Scope) → Fits fin scs st →
      Inv fin scs st args cur × EnvOk fin (sym_count st) env args
  pub in_scopes : (a : ℕ) → In a (arg_syms args) → Bound st.scopes cur a

-- ---- trees that may be read

-- tree t may be read in scope `cur`; def says whether a definition has to stand there
pub record Well (t : Tree) (def : Bool) (cur : ℕ) (env : Env) (st : State) : Type 0 where
  pub standing : Standing cur env st
  pub checked : Checked t def (keys env)
  pub room : Room st 0 0

-- trees ts, the operands of opcode op from operand j on, may be read; block says that they are a block's children. k
-- child slots are paid for and not taken: the record's own and those of its operands before; and where a thunk may
-- open, a scope
pub record WellAll (ts : Trees) (block : Bool) (op j cur : ℕ) (env : Env) (st : State) (k : ℕ) : Type 0 where
  pub standing : Standing cur env st
  pub checked : CheckedIn ts block (keys env)
  pub free : ℕ
  pub room : Room st k free
  pub pays : Pays op free

-- ---- results

-- s is a symbol, and depends on arguments in force in scope `cur` only
pub record Result (st : State) (cur s : ℕ) : Type 0 where
  pub low : s < sym_count st
  pub forced : InForce st.scopes cur (sym_at st.syms s).deps

-- the operands ts have been read from state st, with k slots paid for before: their symbols, and the scopes of the
-- thunks among them
pub record AllRead (ts : Trees) (cur : ℕ) (st : State) (k : ℕ) (os : List ℕ × List ℕ × State) : Type 0 where
  pub later : Grow st os.2
  pub count : length os.0 ≡ many ts
  pub results : Every (Result os.2 cur) os.0
  pub slots : slots_in os.2.syms + (k + many ts) ≤ SLOTS.size
  pub branches : Every (λ b. b < scope_count os.2) os.1
  pub few : length os.1 ≤ 2
