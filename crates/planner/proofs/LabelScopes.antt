-- Which symbols the rows of a scope define: those of its order that get a definition, with what their values define, and then
-- those of its result. In order: definitions; a scope without definitions; a block.
-- Assumes nothing.
use Prim.Native.Nat.{ℕ, ◌+◌, ◌<◌}
use mathlib.Core.Path.{◌≡◌, refl, sym, ◌∙◌, subst}
use mathlib.Core.Bool.{Bool, true, false}
use Rattle.std.specs.Prelude.{Option, Some}
use mathlib.Core.List.{List, [], ◌∷◌, ◌++◌, append-nil}
use native.Mathlib.Numerals.{add-one}
use lib.ListN.{length, get_or, take}
use lib.Seq.{take-suc}
use Rattle.model.specs.Intern.{Env}
use Rattle.model.specs.Gate as model
use Rattle.model.specs.Schedule.{schedule}
use Rattle.model.specs.Materialize.{define, build_value}
use Rattle.model.specs.Labels.{l_define, l_process_scope, l_build_value, defined_of, defined_in}
use Rattle.laws.specs.Defining.{members_in}
use Rattle.labels.proofs.Steps.{defined_other, defined_one, defined_append, scope_defined-none, scope_defined}
use Rattle.graph.specs.Tests.{held_in}
use Rattle.planner.specs.declared.Plan.{Plan}
use Rattle.planner.specs.declared.source.Source.{Source}
use Rattle.planner.specs.Grew.{defined_to, Defining}
use Rattle.planner.specs.Building.{Maps}
use Rattle.planner.specs.Sources.{GraphIn, Member, Members, AnyMember}
use Rattle.planner.specs.Planning.{Labels, Defines, order_symbols}
use Rattle.planner.proofs.Graphs.{only_arguments, scheduled_once}
use Rattle.planner.proofs.Scoping.{memberless, order_is, count_is}
use Rattle.planner.proofs.Labels.{defining_then, labels_then}

-- ---- definitions

module _ {x : Source} {map pl : List ℕ} {p : Plan} (sc : ℕ) where
  pub labels_none : (last : ℕ) → Labels x map pl p (order_symbols sc [] last) pl (Some p)
  unfolding l_define defined_in
  labels_none last = record { are = λ gr at env st maps. sym (append-nil (defined_to pl p)) }

  module _ (s last : ℕ) {t : Bool} (m : Member x map sc s t) where
    pub labels_other : t ≡ false → Labels x map pl p (order_symbols sc (s ∷ []) last) pl (Some p)
    labels_other isnt = record {
      are = λ gr at env st maps.
          rw (defined_other gr sc s env last (sym (m gr env st maps) ∙ isnt)) (sym (append-nil (defined_to pl p)));
    }

    pub labels_one : t ≡ true → {pl₁ pl₂ : List ℕ} {q r : Plan} → Defining pl p (s ∷ []) pl₁ (Some q)
        → Labels x map pl₁ q (λ gr at env. defined_of (l_build_value gr s at env last)) pl₂ (Some r)
        → Labels x map pl p (order_symbols sc (s ∷ []) last) pl₂ (Some r)
    labels_one is {pl₁} {pl₂} {q} {r} h v = record {
      are = λ gr at env st maps.
          rw (defined_one gr sc s env last (sym (m gr env st maps) ∙ is))
          (defining_then pl p (s ∷ []) pl₁ q h (defined_of (l_build_value gr s sc env last)) pl₂ (Some r)
          (v.are gr sc env st maps));
    }

  -- one symbol more
  pub labels_more : (order : List ℕ) {above last i s : ℕ} {pl₁ pl₂ map₁ : List ℕ} {q r : Plan} {last₁ : ℕ}
      → i < length order → s ≡ get_or order i 0
      → Defines x map pl p above sc (take i order) last i pl₁ map₁ q last₁
      → Labels x map pl p (order_symbols sc (take i order) last) pl₁ (Some q)
      → Labels x map₁ pl₁ q (order_symbols sc (s ∷ []) last₁) pl₂ (Some r)
      → Labels x map pl p (order_symbols sc (take (i + 1) order) last) pl₂ (Some r)
  labels_more order {above} {last} {i} {s} {pl₁} {pl₂} {map₁} {q} {r} {last₁} lt e h before one =
      let more : take (i + 1) order ≡ take i order ++ (s ∷ []) =
      rw (add-one i, e) (take-suc order i 0 lt) in
      record {
        are = λ gr at env st maps.
            let a = h.defined gr env st maps in
            let d = define gr (build_value gr) sc (take i order) env last in
            let symbols = order_symbols sc (take i order) last gr at env in
            rw (more, defined_append gr sc (s ∷ []) (take i order) env last, ← a.last_is)
            (defining_then pl p symbols pl₁ q (before.are gr at env st maps) (order_symbols sc (s ∷ []) last₁ gr at d.env)
            pl₂ (Some r) (one.are gr at d.env st a.maps));
      }

-- ---- a scope without definitions

module _ (x : Source) (map : List ℕ) (root sc last : ℕ) where
  labels_result : {pl : List ℕ} {p : Plan} {pl₁ : List ℕ} {r : Option Plan}
      → ((gr : model.Graph) (env : Env) → GraphIn x gr → Maps map env → members_in gr sc env (schedule gr root sc) ≡ 0)
      → Labels x map pl p (λ gr a env. defined_of (l_build_value gr root a env last)) pl₁ r
      → Labels x map pl p (λ gr a env. defined_of (l_process_scope gr (l_build_value gr) root sc env last)) pl₁ r
  labels_result {pl} {p} {pl₁} {r} none h = record {
    are = λ gr a env st maps.
        subst (λ (ss : List ℕ). Defining pl p ss pl₁ r)
        (sym (scope_defined-none gr (only_arguments st) root sc (scheduled_once st root sc) env last 0 (none gr env st maps) refl))
        (h.are gr sc env st maps);
  }

  -- no symbol up to the result's is a member, and the schedule has no others
  pub labels_memberless : {any : Bool} → AnyMember x map sc root any → any ≡ false
      → {pl : List ℕ} {p : Plan} {pl₁ : List ℕ} {r : Option Plan}
      → Labels x map pl p (λ gr a env. defined_of (l_build_value gr root a env last)) pl₁ r
      → Labels x map pl p (λ gr a env. defined_of (l_process_scope gr (l_build_value gr) root sc env last)) pl₁ r
  labels_memberless m isnt = labels_result (memberless x map root sc last m isnt)

  module _ (list : List ℕ) (k : ℕ) (scheduled : (slots : List ℕ) → list ≡ schedule (held_in x.graph x.forest.now slots) root sc)
      (members : Members x map sc list k) where
    -- none of an order that is not empty
    pub labels_nobody : k ≡ 0 → {pl : List ℕ} {p : Plan} {pl₁ : List ℕ} {r : Option Plan}
        → Labels x map pl p (λ gr a env. defined_of (l_build_value gr root a env last)) pl₁ r
        → Labels x map pl p (λ gr a env. defined_of (l_process_scope gr (l_build_value gr) root sc env last)) pl₁ r
    labels_nobody z = labels_result λ gr env st maps. count_is x map root sc last list k scheduled members gr env st maps ∙ z

    -- ---- a block

    pub labels_block : 0 < k → {pl : List ℕ} {p : Plan} {above : ℕ} {pl₁ pl₂ pl₃ map₂ : List ℕ} {q q₂ : Plan} {r : Option Plan}
        {last₂ count : ℕ} → Defining pl p [] pl₁ (Some q)
        → Defines x map pl₁ q above sc list last count pl₂ map₂ q₂ last₂
        → Labels x map pl₁ q (order_symbols sc list last) pl₂ (Some q₂)
        → Labels x map₂ pl₂ q₂ (λ gr a env. defined_of (l_build_value gr root a env last₂)) pl₃ r
        → Labels x map pl p (λ gr a env. defined_of (l_process_scope gr (l_build_value gr) root sc env last)) pl₃ r
    labels_block some {pl} {p} {above} {pl₁} {pl₂} {pl₃} {map₂} {q} {q₂} {r} {last₂} h d ds v =
        labels_then h inside (λ env. env) (λ env m. m) (λ gr a env st. refl)
      where
        inside : Labels x map pl₁ q (λ gr a env. defined_of (l_process_scope gr (l_build_value gr) root sc env last)) pl₃ r
        inside = record {
          are = λ gr a env st maps.
              let order = order_is x map root sc last list k scheduled members gr st in
              let count = count_is x map root sc last list k scheduled members gr env st maps in
              let d₁ = define gr (build_value gr) sc list env last in
              let e = d.defined gr env st maps in
              let whole = scope_defined gr (only_arguments st) root sc (scheduled_once st root sc) env last k count some in
              subst (λ (ss : List ℕ). Defining pl₁ q ss pl₃ r) (sym (rw (← order, ← e.last_is) at whole))
              (defining_then pl₁ q (order_symbols sc list last gr a env) pl₂ q₂ (ds.are gr a env st maps)
              (defined_of (l_build_value gr root sc d₁.env last₂)) pl₃ r (v.are gr sc d₁.env st e.maps));
        }
