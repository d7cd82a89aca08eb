-- What holds of the symbol of a key before it is made. In order: its children; the deps that it will have; the lambdas
-- around it; its levels; the levels that `key_levels` answers.
-- Assumes nothing.
use Prim.Native.Nat.{ℕ, suc, ◌+◌, ◌<◌}
use mathlib.Core.Path.{◌≡◌, refl, sym, ap, ◌∙◌, subst}
use mathlib.Core.Logic.{inl, inr}
use mathlib.Core.Bool.{Bool, false, not, ◌&&◌}
use Rattle.std.proofs.lemmas.Option.{same_Some}
use mathlib.Core.List.{List, []}
use native.Mathlib.Omega.{arith}
use borrow.Author.Tests.{ne_eqb}
use lib.Dec.{eqb}
use lib.ListN.{get_or}
use Rattle.regions.specs.Regions.{PENDING}
use Rattle.model.specs.Lists.{without}
use Rattle.model.specs.Intern.{Sym, sym_at, scope_at, union_deps}
use Rattle.laws.specs.Members.{In}
use Rattle.laws.proofs.Members.{without_cases}
use Rattle.key.specs.declared.Func.{Func}
use Rattle.key.specs.declared.Node.{Node}
use Rattle.key.specs.declared.Node.TheVariants.{Const, Unparsed, Arg, Lambda, Op}
use Rattle.key.specs.Key.{symbol_at}
use Rattle.symbols.specs.Words.{pending_from}
use Rattle.symbols.specs.Symbols.{syms_of, own_of}
use Rattle.symbols.proofs.Words.{words_under}
use Rattle.symbols.proofs.Laws.{sym_kept}
use Rattle.scopes.specs.Levels.{has}
use Rattle.scopes.specs.Scopes.{scope_word, level_of, args_in, scopes_of, outward}
use Rattle.scopes.proofs.Laws.{scope_around}
use Rattle.interner.specs.declared.State.{State}
use Rattle.interner.specs.Levels.{any_has, stored_deps, Bound, InForce}
use Rattle.interner.specs.State.{Rep}
use Rattle.interner.specs.Step.{Levels, new_deps, BodyOf, Ready, key_levels}
use Rattle.interner.proofs.Levels.{any_has-same, any_has_deps, any_has-without, levels_without, union_deps_from}
use Rattle.interner.proofs.Tracks.{outside, bound_args, bound_level, tracks_forced}

-- ---- its children

module _ (bs ws : List ℕ) (st : State) (rep : Rep bs ws st) (held count : ℕ)
    (lower : (k : ℕ) → k < count → get_or ws (PENDING.first + held + k) 0 < st.symbols) where
  abbrev kids : List ℕ
  kids = pending_from ws held count

  abbrev syms : List Sym
  syms = syms_of bs ws st.symbols

  kid_low : (k : ℕ) → In k kids → k < st.symbols
  kid_low = words_under ws (PENDING.first + held) count st.symbols lower

  kid_deps : (k : ℕ) → k < st.symbols → (sym_at syms k).deps ≡ stored_deps bs ws k
  kid_deps k lt = ap (λ (z : Sym). z.deps) (sym_kept bs ws st.symbols (suc k) k lt (omega arith))

  pub deps_low : (a : ℕ) → In a (union_deps syms kids) → a < st.symbols
  deps_low a i =
      let w = union_deps_from syms kids a i in
      let lt : w.0 < st.symbols = kid_low w.0 w.1 in
      let l : a < suc w.0 = (rep.levels.each w.0 lt).low a (subst (In a) (kid_deps w.0 lt) w.2) in
      omega arith

  kids_levels : (j : ℕ) → any_has ws j kids ≡ any_has ws j (union_deps syms kids)
  kids_levels j =
      any_has_deps ws j syms kids (λ k i. let lt = kid_low k i in
      (rep.levels.each k lt).is j ∙ ap (any_has ws j) (sym (kid_deps k lt)))

  -- ---- the deps that it will have

  module _ (cur : ℕ) (current : cur < st.scopes) (own : List ℕ) where
    abbrev left : List ℕ
    left = without (union_deps syms kids) own

    left_low : (a : ℕ) → In a left → a < st.symbols
    left_low a i = deps_low a (without_cases a (union_deps syms kids) own i).0

    -- levels that are those of the deps left, where these are in force
    levels_of : (levels : ℕ) → ((j : ℕ) → has levels j ≡ any_has ws j left) →
        InForce (scopes_of ws st.scopes) cur left → Levels ws st cur left levels
    levels_of levels are forced = record {
      low = λ a i. let l = left_low a i in omega arith;
      are = λ ws' stored j. are j ∙ sym (any_has-same ws ws' j left (λ a i. stored.others a (left_low a i)));
      tracks = tracks_forced ws st.scopes rep.arena.scoped.nested st.symbols rep.levels.arguments cur current levels left are
          forced;
    }

  -- ---- no lambda: the deps of the children

  module _ (cur : ℕ) (current : cur < st.scopes)
      (forced : InForce (scopes_of ws st.scopes) cur (union_deps syms kids)) where
    levels_plain : (levels : ℕ) → ((j : ℕ) → has levels j ≡ any_has ws j kids) →
        Levels ws st cur (without (union_deps syms kids) []) levels
    levels_plain levels are =
        levels_of cur current [] levels
        (λ j. are j ∙ (kids_levels j ∙ sym (any_has-without ws j (union_deps syms kids) [] (λ a i. absurd i))))
        (λ a i. forced a (without_cases a (union_deps syms kids) [] i).0)

  -- ---- a lambda: its own arguments and its own level are taken out

  module _ (cur : ℕ) (current : cur < st.scopes) (b : ℕ) (own : List ℕ) (body : BodyOf ws st.scopes cur b own)
      (forced : InForce (scopes_of ws st.scopes) b (union_deps syms kids)) where
    around_body : (scope_at (scopes_of ws st.scopes) b).around ≡ outward (scopes_of ws st.scopes) cur
    around_body =
        scope_around ws st.scopes st.scopes b rep.arena.scoped.nested body.inside body.low body.low
        ∙ ap (λ (z : ℕ). outward (scopes_of ws st.scopes) z) body.parent

    forced_left : InForce (scopes_of ws st.scopes) cur (without (union_deps syms kids) own)
    forced_left a i =
        let w = without_cases a (union_deps syms kids) own i in go (forced a w.0) w.1
      where
        at_body : (r : Bound (scopes_of ws st.scopes) b a) → r.scope ≡ b → In a own
        at_body r e =
            let p = bound_args ws st.scopes rep.arena.scoped.nested b a body.low r in
            let d : r.args ≡ own =
            same_Some r.args own
            (sym p.1 ∙ (ap (λ (z : ℕ). args_in (scope_word ws z)) e ∙ body.args)) in
            subst (In a) d r.member

        go : (r : Bound (scopes_of ws st.scopes) b a) → (In a own → ⊥) → Bound (scopes_of ws st.scopes) cur a
        go r out = record {
          scope = r.scope;
          around = around r.around;
          args = r.args;
          args_is = r.args_is;
          member = r.member;
        }
          where
            around : In r.scope (outward (scopes_of ws st.scopes) b) →
                In r.scope (outward (scopes_of ws st.scopes) cur)
            around (inl e) = absurd (out (at_body r e))
            around (inr h) = subst (In r.scope) around_body h

    -- no dep that is left is at the level of the body
    left_level : (a : ℕ) → In a (without (union_deps syms kids) own) →
        has (symbol_at ws a).levels (level_of (scope_word ws b)) ≡ false
    left_level a i =
        let r = forced_left a i in
        let lt = outside ws st.scopes rep.arena.scoped.nested b r.scope body.low body.inside (own, body.args)
        (subst (λ (z : ℕ). In r.scope (outward (scopes_of ws st.scopes) z)) (sym body.parent) r.around) in
        (bound_level ws st.scopes rep.arena.scoped.nested st.symbols rep.levels.arguments cur current a r).one
        (level_of (scope_word ws b))
        ∙ ne_eqb (level_of (scope_word ws b)) (level_of (scope_word ws r.scope)) (λ e. omega arith)

    levels_lambda : (levels : ℕ) →
        ((j : ℕ) → has levels j ≡ (not (eqb j (level_of (scope_word ws b))) && any_has ws j kids)) →
        Levels ws st cur (without (union_deps syms kids) own) levels
    levels_lambda levels are =
        levels_of cur current own levels
        (λ j. are j ∙ (ap (λ (z : Bool). not (eqb j (level_of (scope_word ws b))) && z) (kids_levels j)
        ∙ levels_without ws j (level_of (scope_word ws b)) (union_deps syms kids) own
        (λ x i. (rep.levels.arguments b body.low own body.args x i).one j)
        (λ e a i. ap (has (symbol_at ws a).levels) e ∙ left_level a i)))
        forced_left

-- ---- its levels, by its node

pub ready_levels : (bs ws : List ℕ) (st : State) (cur : ℕ) (node : Node) (held count levels : ℕ) → Rep bs ws st →
    Ready bs ws st cur node held count → ((j : ℕ) → has levels j ≡ key_levels ws node held count j) →
    Levels ws st cur (new_deps bs ws st node held count) levels
ready_levels bs ws st cur (Const l) held count levels rep ready are =
    levels_plain bs ws st rep held count ready.fresh.lower cur ready.fresh.current ready.forced levels are
ready_levels bs ws st cur (Unparsed l) held count levels rep ready are =
    levels_plain bs ws st rep held count ready.fresh.lower cur ready.fresh.current ready.forced levels are
ready_levels bs ws st cur (Arg l) held count levels rep ready are = absurd ready.keyed
ready_levels bs ws st cur (Lambda f) held count levels rep ready are =
    levels_lambda bs ws st rep held count ready.fresh.lower cur ready.fresh.current f.body
    (own_of bs (Lambda f)) ready.keyed ready.forced levels are
ready_levels bs ws st cur (Op o) held count levels rep ready are =
    levels_plain bs ws st rep held count ready.fresh.lower cur ready.fresh.current ready.forced levels are

-- ---- the levels that `key_levels` answers

module _ (ws : List ℕ) (held count j r : ℕ) where
  pub plain_key : (node : Node) → ((f : Func) → node ≡ Lambda f → ⊥) →
      has r j ≡ any_has ws j (pending_from ws held count) →
      has r j ≡ key_levels ws node held count j
  plain_key (Const l) n e = e
  plain_key (Unparsed l) n e = e
  plain_key (Arg l) n e = e
  plain_key (Lambda f) n e = absurd (n f refl)
  plain_key (Op o) n e = e
