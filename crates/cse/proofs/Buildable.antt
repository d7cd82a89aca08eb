-- A tree can be built from the symbols of an accepted forest: what planning asks of them, from what the words hold
-- (`Rep`) and from the theorems on interning.
-- In order: a lambda's arguments; a node's scopes and arguments; no node stands for a use; counting; building, in words
-- that agree.
-- Assumes nothing.
use Prim.Native.Nat.{ℕ, ◌+◌, ◌-◌, ◌<◌, ◌≤◌}
use mathlib.Core.Path.{◌≡◌, sym, ap, ◌∙◌, subst}
use Rattle.std.specs.Prelude.{None}
use mathlib.Core.Bool.{true}
use mathlib.Core.List.{List}
use native.Mathlib.Omega.{arith}
use lib.ListN.{length}
use Rattle.regions.specs.Regions.{SLOTS, WORDS}
use Rattle.model.specs.Answer.{good}
use Rattle.model.specs.Tree.{Rec}
use Rattle.model.specs.Shape.{shapes}
use Rattle.model.specs.Forest.{record_count, trees_of, check4}
use Rattle.model.specs.Accept.{accept}
use Rattle.model.specs.Binding.{args_of, kind}
use Rattle.model.specs.Intern.{Sym, Scope, sym_at, with_opts}
use Rattle.model.specs.Schedule.{is_arg}
use Rattle.model.specs.Call.{interned}
use Rattle.laws.specs.Range.{range}
use Rattle.laws.proofs.Holds.{holds_good}
use Rattle.laws.proofs.Members.{clash}
use Rattle.laws.proofs.ArgLists.{args_length, with_opts_syms}
use Rattle.laws.specs.Members.{In, Under}
use Rattle.laws.specs.ArgLists.{ArgList, syms_in}
use Rattle.laws.proofs.Ranges.{range_length, in_range}
use Rattle.theory.proofs.Acceptance.Records.{fits_at}
use Rattle.theory.specs.Good.{node_at, is_plain, Plain, Lam, NodeOk}
use Rattle.theory.proofs.Interning.Interned.{RootInterned, interned_ready}
use Rattle.theory.specs.Sound.{NodeSound, SymSound, Any}
use Rattle.theory.proofs.Bounds.Limits.{Leaves, forest_sound}
use Rattle.record.specs.Record.{row_at}
use Rattle.walk.proofs.Bridge.{row_fits}
use Rattle.codec.proofs.Accepting.{accept-passed}
use Rattle.key.specs.declared.Func.{Func}
use Rattle.key.specs.declared.Node.{Node}
use Rattle.key.specs.declared.Node.TheVariants.{Const, Unparsed, Arg, Lambda, Op}
use Rattle.key.specs.Key.{parts_of, symbol_at}
use Rattle.symbols.specs.Symbols.{syms_of, sym_of, rec_of, own_of, model_node, kids_at}
use Rattle.symbols.proofs.Laws.{syms_length, sym_at_lem, rec_at_lem}
use Rattle.scopes.specs.Scopes.{scopes_of}
use Rattle.scopes.proofs.Laws.{scopes_length}
use Rattle.interner.specs.declared.State.{State}
use Rattle.tables.specs.Tables.{new_tables}
use Rattle.symbols.specs.Sourced.{Sourced}
use Rattle.interner.specs.State.{abs_of, Rep}
use Rattle.gate.specs.Gate.{Countable, CountsOnly}
use Rattle.graph.specs.Graph.{Arena}
use Rattle.graph.proofs.Laws.{Still, still_above, node_agree, arena_agree}
use Rattle.free_lists.proofs.Above.{lists_above}
use Rattle.planner.specs.Building.{Opens, NoUse, an_arg, ArgOf, Buildable}

-- ---- a lambda's arguments

module _ (bs : List ℕ) (f : Func) where
  -- in its node, each with an opt
  abbrev own : ArgList
  own = let r = (row_at bs f.source).rec in with_opts (args_of r.aux r.lit) (range f.first r.aux)

  own_syms : syms_in own ≡ own_of bs (Lambda f)
  own_syms =
      let r = (row_at bs f.source).rec in
      with_opts_syms (args_of r.aux r.lit) (range f.first r.aux)
      (range_length f.first r.aux ∙ sym (args_length r.aux r.lit))

  own_in : (a : ℕ) → ArgOf bs f a → In a (syms_in own)
  own_in a h = rw own_syms (in_range f.first (row_at bs f.source).rec.aux a h.0 h.1)

-- ---- a node's scopes and arguments

args_under : (s first n : ℕ) → Under s (range first n) → 0 < n → first + n ≤ s
args_under s first n h l =
    let x = first + (n - 1) in
    omega (arith, h x (in_range first n x (omega arith) (omega arith)))

module _ (bs : List ℕ) (fit : check4 bs ≡ None) (m s count : ℕ) (ks : List ℕ) where
  opens_node : (nd : Node) → (parts_of nd).source < record_count bs → Sourced bs nd count →
      NodeSound Any s m (rec_of bs nd) ks (model_node bs nd) → Opens bs m s nd
  unfolding shapes
  opens_node (Const l) low from h = tt
  opens_node (Unparsed l) low from h = tt
  opens_node (Arg l) low from h = tt
  opens_node (Lambda f) low from h =
      let row = row_at bs f.source in
      let parts = fits_at row.rec row.kids 12 from.0 (row_fits bs f.source fit low) in
      record {
        body = h.0;
        first = args_under s f.first row.rec.aux (subst (Under s) (own_syms bs f) h.1);
        few = parts.aux_is;
        args = parts.right_is;
      }
  opens_node (Op o) low from h = h.0

-- ---- no node stands for a use

module _ (bs : List ℕ) (fin : List Sym) (scs : List Scope) (s : ℕ) where
  plain_no_use : (r : Rec) → (sym_at fin s).rec ≡ r → Plain fin s → r.shape ≡ 7 → ⊥
  unfolding kind
  plain_no_use r e h seven =
      clash (is_plain (kind (sym_at fin s).rec.shape)) h.kind_is
      (ap (λ (x : Rec). is_plain (kind x.shape)) e ∙ ap (λ (n : ℕ). is_plain (kind n)) seven)

  no_use_node : (nd : Node) → (sym_at fin s).rec ≡ rec_of bs nd → NodeOk fin scs s (model_node bs nd) → NoUse bs nd
  no_use_node (Const l) e h = plain_no_use _ e h.0
  no_use_node (Unparsed l) e h = plain_no_use _ e h.0
  no_use_node (Arg l) e h = tt
  no_use_node (Lambda f) e h =
      λ seven. omega (arith, ap (λ (x : Rec). x.shape) e, h.shape_is, seven)
  no_use_node (Op o) e h = plain_no_use _ e h.0

-- ---- counting

pub arena_countable : {bs ws : List ℕ} {n m : ℕ} → WORDS ≤ length ws → Arena bs ws n m → Countable ws n
arena_countable words a = record {
  few = a.scoped.few;
  words = words;
  kids = λ i l. let s = a.sound i l in record { slots = s.slots; lower = s.lower };
}

-- ---- building

module _ (bs ws : List ℕ) (st : State) (rep : Rep bs ws st) where
  module _ (root : ℕ) (accepted : accept bs ≡ good (trees_of bs))
      (is : interned bs ≡ good (root, abs_of bs ws new_tables st)) where
    leaves : Leaves Any (root, abs_of bs ws new_tables st)
    leaves = forest_sound bs (trees_of bs) accepted (root, abs_of bs ws new_tables st) is

    pub root_low : root < st.symbols
    root_low = omega (arith, leaves.root_low, syms_length bs ws st.symbols)

    sym_sound : (s : ℕ) → s < st.symbols →
        SymSound Any s (length (scopes_of ws st.scopes)) (sym_at (syms_of bs ws st.symbols) s)
    sym_sound s l = leaves.sound.syms_sound s (omega (arith, syms_length bs ws st.symbols))

    opens_at : (s : ℕ) → s < st.symbols → Opens bs st.scopes s (symbol_at ws s).node
    unfolding sym_of
    opens_at s l =
        let y = symbol_at ws s in
        let placed = subst
        (λ (z : Sym). NodeSound Any s (length (scopes_of ws st.scopes)) z.rec z.kids z.node)
        (sym_at_lem bs ws st.symbols s l) (sym_sound s l).node_sound in
        opens_node bs (accept-passed bs (trees_of bs) accepted).shaped.sound.fit st.scopes s y.count
        (kids_at ws s) y.node (rep.arena.sound s l).from (rep.sourced s l)
        (subst (λ (m : ℕ). NodeSound Any s m (rec_of bs y.node) (kids_at ws s) (model_node bs y.node))
        (scopes_length ws st.scopes) placed)

    abbrev fin : List Sym
    fin = syms_of bs ws st.symbols

    abbrev scs : List Scope
    scs = scopes_of ws st.scopes

    node_is : (s : ℕ) → s < st.symbols → node_at fin s ≡ model_node bs (symbol_at ws s).node
    unfolding sym_of
    node_is s l = ap (λ (y : Sym). y.node) (sym_at_lem bs ws st.symbols s l)

    node_ok : (s : ℕ) → s < st.symbols → NodeOk fin scs s (model_node bs (symbol_at ws s).node)
    node_ok s l =
        let ready = holds_good (λ o. RootInterned o.1 o.0 _) is (interned_ready bs (trees_of bs) accepted) in
        let ok = ready.inv.good s (omega (arith, syms_length bs ws st.symbols)) in
        subst (NodeOk fin scs s) (node_is s l) ok.node_is

    no_use_at : (s : ℕ) → s < st.symbols → NoUse bs (symbol_at ws s).node
    no_use_at s l = no_use_node bs fin scs s (symbol_at ws s).node (rec_at_lem bs ws st.symbols s l) (node_ok s l)

    -- a lambda's arguments are lower symbols, made as arguments, and no lower lambda has them
    module _ (s : ℕ) (f : Func) (l : s < st.symbols) (e : (symbol_at ws s).node ≡ Lambda f) where
      lam_at : Lam fin scs s (own bs f) f.body
      lam_at = subst (λ (nd : Node). NodeOk fin scs s (model_node bs nd)) e (node_ok s l)

      arg_low : (a : ℕ) → ArgOf bs f a → a < st.symbols
      arg_low a h = omega (arith, lam_at.args_low a (own_in bs f a h), l)

      args_at : (a : ℕ) → ArgOf bs f a → an_arg bs ws a ≡ true
      args_at a h = ap is_arg (sym (node_is a (arg_low a h)) ∙ lam_at.args_are a (own_in bs f a h))

      apart_at : (t a : ℕ) (g : Func) → t < s → (symbol_at ws t).node ≡ Lambda g → ArgOf bs f a → ArgOf bs g a → ⊥
      apart_at t a g lt d h k =
          let is = node_is t (omega (arith, l, lt)) ∙ ap (model_node bs) d in
          lam_at.fresh t lt (own bs g) g.body is a (own_in bs f a h) (own_in bs g a k)

    -- in words with the uses counted
    module _ (ws' : List ℕ) (counted : CountsOnly ws ws') where
      still : Still ws ws' SLOTS.size st.symbols st.scopes
      still = still_above counted (omega arith) (omega arith) rep.arena.scoped

      symbol_same : (s : ℕ) → s < st.symbols → symbol_at ws' s ≡ symbol_at ws s
      symbol_same = node_agree still

      pub buildable : Buildable bs ws' st.symbols st.scopes
      buildable = record {
        arena = arena_agree still bs (λ i l. (rep.arena.sound i l).slots) rep.arena;
        lists = lists_above counted (omega arith) rep.arena rep.lists;
        sourced = λ s l. rw (symbol_same s l) (rep.sourced s l);
        opens = λ s l. rw (symbol_same s l) (opens_at s l);
        no_use = λ s l. rw (symbol_same s l) (no_use_at s l);
        args_are = λ s a f l e h.
            let d = rw (symbol_same s l) at e in
            rw (symbol_same a (arg_low s f l d a h)) (args_at s f l d a h);
        apart = λ s t a f g l lt e d.
            apart_at s f l (rw (symbol_same s l) at e) t a g lt (rw (symbol_same t (omega (arith, l, lt))) at d);
      }
