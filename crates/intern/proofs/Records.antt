-- What a record gives, once its children are read.
-- In order: a step's answer; definitions and blocks, and any other record; the children of a record: that they may be
-- read, and what is known once they are.
-- Assumes nothing.
use Prim.Native.Nat.{ℕ, zero, suc, ◌+◌, ◌<◌, ◌≤◌}
use mathlib.Core.Path.{◌≡◌, refl, sym, ap, ◌∙◌, subst}
use mathlib.Core.Logic.{◌⊎◌, inl, inr}
use mathlib.Core.Bool.{Bool, true, false}
use Rattle.std.specs.Prelude.{Err, IsOk}
use mathlib.Core.List.{List, []}
use native.Mathlib.Omega.{arith}
use native.Mathlib.Decide.{dec_lt}
use native.Mathlib.Numerals.{add-one}
use borrow.Author.Tests.{eq-eqb, ne_eqb}
use lib.Dec.{eqb}
use lib.ListN.{length, get_or}
use Rattle.regions.specs.Regions.{SLOTS, SCOPES, PENDING, WORDS}
use Rattle.model.specs.Answer.{refused, ◌>>=◌}
use Rattle.model.specs.Lists.{last}
use Rattle.model.specs.Tree.{Rec, many, depth, depths}
use Rattle.model.specs.Forest.{record_count}
use Rattle.model.specs.Intern.{Out, Outs, Env, node_of, finish, intern_last, intern_general}
use Rattle.model.specs.Intern as intern
use Rattle.laws.specs.Members.{In}
use Rattle.refusal.specs.declared.Refusal.{Refusal}
use Rattle.record.specs.Record.{row_at}
use Rattle.shape.proofs.Fitting.{fits_def, fits_block}
use Rattle.walk.specs.Walk.{rec_at, kid_trees_at, tree_at, WellFormed}
use Rattle.walk.proofs.Bridge.{row_fits, kids_there}
use Rattle.symbols.specs.Words.{words_from, pending_from}
use Rattle.symbols.proofs.Words.{words_length}
use Rattle.scopes.specs.Scopes.{level_of}
use Rattle.bindings.specs.Bindings.{env_of}
use Rattle.bindings.proofs.Laws.{env_words}
use Rattle.tables.specs.declared.Tables.{Tables}
use Rattle.tables.specs.Tables.{Open}
use Rattle.tables.proofs.Stack.{open_later}
use Rattle.interner.specs.declared.State.{State}
use Rattle.interner.specs.declared.Step.{Step}
use Rattle.interner.specs.State.{abs_of, Rep}
use Rattle.interner.specs.Step.{refusal_of, given, step_of, Answers}
use Rattle.interner.proofs.Sharing.{out_refused, given_answers}
use Rattle.opening.proofs.Counts.{symbols-count}
use Rattle.key.specs.Key.{branches_of}
use Rattle.concluding.specs.Concluding.{Concludes}
use Rattle.concluding.proofs.Children.{last_low}
use Rattle.standing.specs.Standing.{WellAll, AllRead}
use Rattle.standing.proofs.Forced.{union_forced}
use Rattle.standing.proofs.Next.{all_results, again_well}
use Rattle.intern.specs.declared.Here.{Here}
use Rattle.intern.specs.Steps.{KidsStep}
use Rattle.intern.specs.Words.{Kept}
use Rattle.intern.specs.Intern.{Stands, StandsAt, Reads, kids_read, concluded, WellKids, trees, Plain}
use Rattle.intern.specs.Intern.{Operands, kids_answer, kids_of, Concluding, Concluded, ReadsAll}
use Rattle.intern.proofs.Kept.{kept_then, leaves_kept}
use Rattle.intern.proofs.After.{kids_good, kids_refused}

-- ---- a step's answer

module _ {bs ws ws₁ : List ℕ} {t : Tables} {st st₁ : State} {i : ℕ} {at : Here} {o : Out} (kept : Kept at ws ws₁ st st₁)
    (rep : Rep bs ws₁ st₁) (open' : Open t st₁.entries) where
  pub reads_refused : (x : Refusal) → o ≡ refusal_of x →
      Reads bs ws t st i at o ws₁ (step_of st₁ (Err x))
  reads_refused x e = record {
    rep = rep;
    opened = open';
    is = out_refused bs ws₁ t (step_of st₁ (Err x)) refl ∙ sym e;
    kept = kept;
  }

  pub reads_answers : {o' : Out} {ws₂ : List ℕ} {r : Step} → o' ≡ o → Answers bs ws₁ t st₁ o' ws₂ r →
      Reads bs ws t st i at o ws₂ r
  reads_answers {r = r} e a = record {
    rep = a.rep;
    opened = open_later t st₁.entries open' r.st.entries a.leaves.entries;
    is = a.is ∙ e;
    kept = kept_then (omega arith) (omega arith) kept (leaves_kept at rep.arena.scoped.few_scopes a.leaves);
  }

-- ---- definitions and blocks, and any other record

module _ (at cur : ℕ) (r : Rec) (m : Outs) where
  pub concluded-last : (r.shape ≡ 10) ⊎ (r.shape ≡ 11) → concluded at cur r m ≡ intern_last m
  unfolding concluded
  concluded-last (inl e) = rw (eq-eqb r.shape 10 e, concluded)
  concluded-last (inr e) = rw (ne_eqb r.shape 10 (λ z. omega arith), eq-eqb r.shape 11 e, concluded)

  pub concluded_other : (r.shape ≡ 10 → ⊥) → (r.shape ≡ 11 → ⊥) → concluded at cur r m ≡ intern_general at cur r m
  unfolding concluded
  concluded_other a b = rw (ne_eqb r.shape 10 a, ne_eqb r.shape 11 b, concluded)

pub concluded_refused : (at cur : ℕ) (r : Rec) (n p : ℕ) → concluded at cur r (refused n p) ≡ refused n p
unfolding concluded intern_last intern_general ◌>>=◌
concluded_refused at cur r n p = go (eqb r.shape 10) (eqb r.shape 11)
  where
    go : (a b : Bool) →
        ◌≡◌ {A = Out} (elim a [ true ↦ refused n p | false ↦ elim b [ true ↦ refused n p | false ↦ refused n p ] ])
        (refused n p)
    go true b = refl
    go false true = refl
    go false false = refl

-- a definition or a block, by the range of their numbers
pub ends_shape : (s : ℕ) → 10 ≤ s → s < 12 → (s ≡ 10) ⊎ (s ≡ 11)
ends_shape s low high = elim (dec_lt s 11) [ yes p ↦ inl (omega arith) | no p ↦ inr (omega arith) ]

-- a record that may be concluded, with n children
pub record Concludable (bs ws : List ℕ) (i : ℕ) (at : Here) (k : KidsStep) (n : ℕ) : Type 0 where
  pub sound : WellFormed bs
  pub rep : Rep bs ws k.st
  pub concludes : Concluding bs ws i at k
  pub count : n ≡ (row_at bs i).kids

module _ {bs ws : List ℕ} {i : ℕ} {at : Here} {k : KidsStep} {n : ℕ} (h : Concludable bs ws i at k n) where
  -- a definition or a block has a last child
  last_some : ((rec_at bs i).shape ≡ 10) ⊎ ((rec_at bs i).shape ≡ 11) → 1 ≤ (row_at bs i).kids
  last_some (inl e) = omega (arith, (fits_def (row_at bs i) (row_fits bs i h.sound.fit h.concludes.from) e).0)
  last_some (inr e) = fits_block (row_at bs i) (row_fits bs i h.sound.fit h.concludes.from) e

  pub last_asks : ((rec_at bs i).shape ≡ 10) ⊎ ((rec_at bs i).shape ≡ 11) →
      (0 < n) × (at.held + n ≤ PENDING.size) × (WORDS ≤ length ws)
  last_asks e = (
    omega (arith, h.count, last_some e),
    omega (arith, h.count, h.concludes.pending),
    h.rep.words,
  )

  module _ (t : Tables) where
    abbrev read : Outs
    read = kids_answer bs ws t at.held (row_at bs i).kids k

    pub last_answers : ((rec_at bs i).shape ≡ 10) ⊎ ((rec_at bs i).shape ≡ 11) → {r : Step} →
        r ≡ given k.st (last (pending_from ws at.held n)) → Concluded bs ws t i at k ws r
    unfolding intern_last ◌>>=◌
    last_answers e {r} is =
        rw (concluded-last i at.scope (rec_at bs i) read e)
        (given_answers h.rep
        (last_low ws at.held (row_at bs i).kids k.st.symbols (last_some e) h.concludes.lower)
        (is ∙ rw h.count))

    pub general_answers : ((rec_at bs i).shape ≡ 10 → ⊥) → ((rec_at bs i).shape ≡ 11 → ⊥) → {ws' : List ℕ} {r : Step} →
        Answers bs ws t k.st
        (finish i at.scope (rec_at bs i) (pending_from ws at.held n) []
        (node_of (rec_at bs i) (branches_of k.branches)) (abs_of bs ws t k.st)) ws' r →
        Concluded bs ws t i at k ws' r
    unfolding intern_general ◌>>=◌
    general_answers a b g = rw (concluded_other i at.scope (rec_at bs i) read a b, ← h.count) g

-- ---- the children of a record

-- a pending symbol
pending_in : (ws : List ℕ) (at n j : ℕ) → j < n → In (get_or ws (at + j) 0) (words_from ws at n)
unfolding words_from
pending_in ws at zero j l = absurd (omega arith)
pending_in ws at (suc n) zero l = let e : at + 0 ≡ at = omega arith in inl (rw e)
pending_in ws at (suc n) (suc j) l =
    let e : suc at + j ≡ at + suc j = omega arith in
    inr (subst (λ (z : ℕ). In (get_or ws z 0) (words_from ws (suc at) n)) e (pending_in ws (suc at) n j (omega arith)))

-- a record whose children may be read
pub record Parent (bs ws : List ℕ) (t : Tables) (st : State) (i : ℕ) (at : Here) : Type 0 where
  pub sound : WellFormed bs
  pub there : i < record_count bs
  pub stands : StandsAt bs ws t st i at
  pub well : WellKids bs ws t st i at

-- where the children of record i are read
pub record Below (bs ws : List ℕ) (t : Tables) (st : State) (i : ℕ) (at : Here) : Type 0 where
  pub stands : Stands bs ws t st (i + 1) (depths (kid_trees_at bs i)) at
  pub room : length t + depths (kid_trees_at bs i) < 65

pub stands_below : {bs ws : List ℕ} {t : Tables} {st : State} {i : ℕ} {at : Here} →
    Stands bs ws t st i (depth (tree_at bs i)) at → Below bs ws t st i at
unfolding depth
stands_below h = record {
  stands = record {
    rep = h.rep;
    opened = h.opened;
    scope = h.scope;
    held = omega (arith, h.held);
    top = omega (arith, h.top);
    level = omega (arith, h.level);
    tables = omega (arith, h.tables);
  };
  room = omega (arith, h.tables);
}

-- the same place, later
pub stands_later : {bs ws ws₁ : List ℕ} {t : Tables} {st st₁ : State} {i d : ℕ} {at : Here} → Stands bs ws t st i d at →
    Rep bs ws₁ st₁ → Open t st₁.entries → Kept at ws ws₁ st st₁ → Stands bs ws₁ t st₁ i d at
stands_later {at} h rep open' kept = record {
  rep = rep;
  opened = open';
  scope = omega (arith, h.scope, kept.scopes);
  held = h.held;
  top = h.top;
  level =
      omega (
        arith,
        h.level,
        ap level_of (kept.words.scopes (SCOPES.first + at.scope) (omega arith) (omega (arith, h.scope))),
      );
  tables = h.tables;
}

-- the children of record i were read: what they gave, and what their symbols are
pub record Gave (bs ws : List ℕ) (t : Tables) (st : State) (i : ℕ) (at : Here) (b : Bool) (n : ℕ) (ws₁ : List ℕ)
    (k : KidsStep) : Type 0
  where
    pub is : kids_read bs i at.scope (env_of ws at.top) (abs_of bs ws t st) ≡ kids_answer bs ws₁ t at.held n k
    pub slots : k.st.slots + (1 + n) ≤ SLOTS.size
    pub conclude : (cur : ℕ) → cur < st.scopes → Concludes bs ws₁ k.st i cur at.scope at.held n
    pub again : WellAll (kid_trees_at bs i) b (rec_at bs i).opcode 0 at.scope (env_of ws₁ at.top)
        (abs_of bs ws₁ t k.st) 1

module _ {bs ws : List ℕ} {t : Tables} {st : State} {i : ℕ} {at : Here} {b : Bool} (sound : WellFormed bs)
    (lt : i < record_count bs) (below : Below bs ws t st i at)
    (well : WellAll (kid_trees_at bs i) b (rec_at bs i).opcode 0 at.scope (env_of ws at.top) (abs_of bs ws t st) 1)
    {n op : ℕ} (en : n ≡ (row_at bs i).kids) (eo : op ≡ (rec_at bs i).opcode) where
  abbrev env : Env
  env = env_of ws at.top

  abbrev A : intern.State
  A = abs_of bs ws t st

  trees_are : trees bs (i + 1) n ≡ kid_trees_at bs i
  unfolding kid_trees_at
  trees_are = rw en

  -- that they may be read
  pub kids_operands : Plain (rec_at bs i).opcode b → Operands bs ws t st (i + 1) n op at
  kids_operands plain =
      record {
        there = omega (arith, en, kids_there bs i sound.closed lt);
        within = omega arith;
        stands = rw trees_are below.stands;
        room = λ j e. rw trees_are below.room;
        block = b;
        plain = rw eo plain;
        paid = 1;
        well = rw (trees_are, eo) well;
      }

  -- what is known once they are
  module _ {ws₁ : List ℕ} {k : KidsStep} (v : ReadsAll bs ws t st (i + 1) n op at ws₁ k) where
    pub all_is : kids_of bs ws₁ t at.held n k ≡ kids_read bs i at.scope env A
    all_is = v.is ∙ rw (trees_are, eo, add-one i)

    pub kids_fail : {x : Refusal} → k.outcome ≡ Err x → kids_read bs i at.scope env A ≡ refusal_of x
    kids_fail h = sym all_is ∙ kids_refused bs ws₁ t at.held n k h

    module _ (ok : IsOk k.outcome) where
      kids_give : kids_read bs i at.scope env A ≡ kids_answer bs ws₁ t at.held n k
      kids_give = sym all_is ∙ kids_good bs ws₁ t at.held n k ok

      kids_all : AllRead (kid_trees_at bs i) at.scope A 1
          (pending_from ws₁ at.held n, branches_of k.branches, abs_of bs ws₁ t k.st)
      kids_all = all_results well (suc i) _ kids_give

      kids_count : many (kid_trees_at bs i) ≡ n
      kids_count = sym kids_all.count ∙ words_length ws₁ (PENDING.first + at.held) n

      kids_slots : k.st.slots + (1 + n) ≤ SLOTS.size
      kids_slots = omega (arith, kids_all.slots, kids_count, v.rep.slots.all)

      kids_conclude : (cur : ℕ) → cur < st.scopes → Concludes bs ws₁ k.st i cur at.scope at.held n
      kids_conclude cur l = record {
        from = lt;
        children = sym en;
        current = omega (arith, v.kept.scopes);
        slots = omega (arith, kids_slots);
        pending = v.pending ok;
        lower = λ j m.
            omega (
              arith,
              (kids_all.results (get_or ws₁ (PENDING.first + at.held + j) 0) (pending_in ws₁ (PENDING.first + at.held) n j m)).low,
              symbols-count bs ws₁ t k.st,
            );
        forced = union_forced (abs_of bs ws₁ t k.st) at.scope (pending_from ws₁ at.held n) kids_all.results;
      }

      pub kids_gave : Gave bs ws t st i at b n ws₁ k
      kids_gave = record {
        is = kids_give;
        slots = kids_slots;
        conclude = kids_conclude;
        again = rw (env_words ws₁ ws at.top v.kept.words.bound) (again_well well (suc i) _ kids_give);
      }
