-- The symbol of an operation or a leaf: if it has a value, so has its symbol, and what is made is live.
-- In order: the symbol of a key, found or made, in the current scope or around it (`HasKeyIn`); the node of an operation;
-- what the reading of operands owes (`OwesAll`); operations (`intern_general_keeps`).
-- Assumes nothing.
use mathlib.Core.Path.{◌≡◌, refl, ap, ap₂, sym, ◌∙◌, subst}
use mathlib.Core.Logic.{◌⊎◌, inl, inr}
use mathlib.Core.Bool.{Bool, true, false}
use Rattle.std.specs.Prelude.{Option, None, Some}
use mathlib.Core.List.{List, [], map}
use Prim.Native.Nat.{ℕ, suc, ◌≤◌, ◌<◌}
use native.Mathlib.Omega.{arith}
use lib.ListN.{length, get_or}
use Rattle.model.specs.Lists.{any_in, last}
use Rattle.model.specs.Tree.{Rec, Trees, many, is_nil}
use Rattle.model.specs.Intern.{Node, Sym, Scope, State, Env, Outs, sym_at, lookup, is_key, climb, placement, push, finish}
use Rattle.model.specs.Intern.{thunked, node_of, intern_general}
use Rattle.model.specs.Failing.{◌>>=◌, Semantics, Values, found_from, applied, eval_all, eval_last}
use Rattle.laws.proofs.Apart.{none_some}
use Rattle.laws.proofs.Holds.{Holds, holds_bind, holds_map}
use Rattle.laws.specs.Members.{In}
use Rattle.theory.specs.Checked.{FitsWith}
use Rattle.theory.specs.Good.{rec_at, sym_kids, node_at, sym_count, scope_count, around_at}
use Rattle.theory.specs.Inv.{InAny, Grow}
use Rattle.theory.proofs.Interning.Inv.{grow_none, grow_then}
use Rattle.theory.proofs.Interning.Push.{new_sym, push-count, push_grows, PartsAt, push_parts}
use Rattle.theory.proofs.Interning.Finish.{lookup_found, is_key_true, finish_cases}
use Rattle.theory.proofs.Interning.Keep.{Symbols, node_of_cases}
use Rattle.theory.proofs.Failing.Values.{thunks_of, OperationOrLeaf, AgreeFound, first-agrees, applied-agrees, value_is}
use Rattle.theory.proofs.Failing.Values.{KidsLive, SymLive}
use Rattle.theory.proofs.Failing.Live.{Final, Prefix, prefix_back, home, outwards, lined_has, lined_enter, Here}
use Rattle.theory.proofs.Failing.Live.{After, here_later, after_none, after_join, entered_from, Living, living_more}
use Rattle.theory.proofs.Failing.Thunks.{value_at, EnvValued, HasValue, Owes}

-- ---- the symbol of a key

module _ (F : Final) where
  -- o.0 has this key, in scope cur or around; what is made has this node
  pub record HasKeyIn (cur : ℕ) (r : Rec) (ks : List ℕ) (nd : Node) (st : State) (o : ℕ × State) : Type 0 where
    pub grows : Grow st o.1
    pub after : Prefix F o.1 → Here F st cur → After F st o.1 cur
    pub same_scopes : scope_count o.1 ≡ scope_count st
    pub low : Prefix F o.1 → Here F st cur → o.0 < length F.syms
    pub rec_is : Prefix F o.1 → Here F st cur → rec_at F.syms o.0 ≡ r
    pub kids_is : Prefix F o.1 → Here F st cur → sym_kids F.syms o.0 ≡ ks
    pub scope_in : Prefix F o.1 → Here F st cur → In (home F o.0) (outwards F cur)
    pub made : (x : ℕ) → sym_count st ≤ x → x < sym_count o.1 → x ≡ o.0
    pub node_is : Prefix F o.1 → Here F st cur → (x : ℕ) → sym_count st ≤ x → x < sym_count o.1 →
        node_at F.syms x ≡ nd

  module _ (cur : ℕ) (r : Rec) (ks : List ℕ) (nd : Node) (st : State) where
    found : (i : ℕ) → lookup st.syms r ks st.tables ≡ Some i → HasKeyIn cur r ks nd st (i, st)
    found i e = record {
      grows = grow_none st;
      after = λ w h. after_none F st cur h;
      same_scopes = refl;
      low = λ w h. omega (arith, (has h).0, w.counts);
      rec_is = λ w h. sym (ap (λ (z : Sym). z.rec) (fit w h)) ∙ key.0;
      kids_is = λ w h. sym (ap (λ (z : Sym). z.kids) (fit w h)) ∙ key.1;
      scope_in = λ w h. (has h).1;
      made = λ x l m. absurd (omega arith);
      node_is = λ w h x l m. absurd (omega arith);
    }
      where
        there : InAny i st.tables × (is_key st.syms r ks i ≡ true)
        there = lookup_found st.syms r ks st.tables i e

        key : (rec_at st.syms i ≡ r) × (sym_kids st.syms i ≡ ks)
        key = is_key_true st.syms r ks i there.1

        has : Here F st cur → (i < sym_count st) × In (home F i) (outwards F cur)
        has h = lined_has F (sym_count st) i st.tables (outwards F cur) h.lined there.0

        fit : Prefix F st → Here F st cur → sym_at st.syms i ≡ sym_at F.syms i
        fit w h = w.fits.syms_fit i (has h).0

    -- with no lambda around, a new symbol stays in the current scope
    place_is : (deps : List ℕ) → Prefix F st → Here F st cur → placement st cur deps ≡ cur
    unfolding placement climb
    place_is deps w h =
        let fit = w.fits.scopes_fit cur (h.opens cur (inl refl)) in
        ap stop (ap (λ (z : Scope). z.args) fit ∙ h.plain)
      where
        stop : Option (List ℕ) → ℕ
        stop o = elim o [
          | None ↦ cur
          | Some xs ↦ elim (any_in xs deps) [ true ↦ cur | false ↦ climb st.scopes deps (around_at st.scopes cur) ]
        ]

    new : (deps : List ℕ) → HasKeyIn cur r ks nd st (sym_count st, push cur r ks deps true nd st)
    unfolding push
    new deps = record {
      grows = grows;
      after = λ w h. record {
        lined = lined_enter F (sym_count st) _ (sym_count st) st.tables cur (around_at F.scopes cur)
            (omega (arith, more)) (omega (arith, more)) (scope_is w h) h.lined;
        placed = λ x l m.
            let e = ap (λ (z : ℕ). home F z) (is_new_lem x l m) ∙ scope_is w h in
            (inl e, omega (arith, e, h.opens cur (inl refl)));
      };
      same_scopes = refl;
      low = λ w h. omega (arith, more, w.counts);
      rec_is = λ w h. (parts w).rec_is;
      kids_is = λ w h. (parts w).kids_is;
      scope_in = λ w h. inl (scope_is w h);
      made = λ x l m. is_new_lem x l m;
      node_is = λ w h x l m. ap (λ (z : ℕ). node_at F.syms z) (is_new_lem x l m) ∙ (parts w).node_is;
    }
      where
        more : sym_count (push cur r ks deps true nd st) ≡ suc (sym_count st)
        more = push-count cur r ks deps true nd st

        is_new_lem : (x : ℕ) → sym_count st ≤ x → x < sym_count (push cur r ks deps true nd st) → x ≡ sym_count st
        is_new_lem x l m = omega (arith, more)

        grows : Grow st (push cur r ks deps true nd st)
        grows = push_grows cur r ks deps true nd st

        parts : Prefix F (push cur r ks deps true nd st) → PartsAt F.syms (sym_count st) (new_sym cur r ks deps nd st)
        parts w = push_parts F.syms F.scopes cur r ks deps true nd st w.fits

        scope_is : Prefix F (push cur r ks deps true nd st) → Here F st cur → home F (sym_count st) ≡ cur
        scope_is w h =
            (parts w).scope_is ∙ place_is deps (prefix_back st (push cur r ks deps true nd st) grows w) h

    finish_is : (at : ℕ) → Holds (HasKeyIn cur r ks nd st) (finish at cur r ks [] nd st)
    finish_is at = finish_cases (HasKeyIn cur r ks nd st) at cur r ks [] nd st found (λ e l. new _)

-- ---- a node for a record with these children, and the thunks among them

abbrev NodeFor : List ℕ → List ℕ → Node → Type 0
NodeFor ks brs nd = OperationOrLeaf nd × ((thunks_of nd ≡ brs) ⊎ (ks ≡ []))

node_of_for : (r : Rec) (ks brs : List ℕ) → FitsWith r (length ks) → NodeFor ks brs (node_of r brs)
node_of_for r ks brs f =
    node_of_cases (NodeFor ks brs) r ks brs f (λ e. (tt, inr e)) (λ e. (tt, inr e)) (tt, inl refl)

module _ {W : Type 0} (sem : Semantics W) (F : Final) where
  -- ---- what the reading of operands owes

  -- their symbols ks have the operands' values os, but for those that are skipped; brs are the scopes of thunks
  pub record OperandsHave (st st' : State) (cur op j : ℕ) (c : Option W) (os : List (Option W)) (ks brs : List ℕ) :
      Type 0 where
    pub agree : AgreeFound sem op j c os (map (value_at sem F) ks)
    pub live : List ℕ
    pub living : Living sem F st st' cur live
    pub kids_live : KidsLive sem F.syms (entered_from sem F cur live) op j c ks brs

  abbrev pub NoThunks : ℕ → Type 0
  NoThunks op = (j : ℕ) → thunked op j ≡ false

  -- b says that they are a block's children, of which the last gives the block's value
  pub record OwesAll (st : State) (cur : ℕ) (env : Env) (op j : ℕ) (b : Bool) (ts : Trees) (os : Symbols) : Type 0 where
    pub count : length os.0 ≡ many ts
    pub grows : Grow st os.2
    pub after : Prefix F os.2 → Here F st cur → After F st os.2 cur
    pub empty : is_nil ts ≡ true → sym_count os.2 ≤ sym_count st
    pub operands : b ≡ false → Prefix F os.2 → Here F st cur → (ms : Values W) (c : Option W) (ws : List W) →
        EnvValued sem F env ms cur → found_from sem op j c (eval_all sem ts ms) ≡ Some ws →
        OperandsHave st os.2 cur op j c (eval_all sem ts ms) os.0 os.1
    pub result : NoThunks op → (b ≡ false → many ts ≡ 1) → Prefix F os.2 → Here F st cur → (ms : Values W) (w : W) →
        EnvValued sem F env ms cur → eval_last sem ts ms ≡ Some w → HasValue sem F st os.2 cur (last os.0) w

  -- ---- operations

  some_parts : (r : Rec) (m : Option (List W)) (w : W) → (m >>= λ vs. sem.apply r vs) ≡ Some w →
      (ws : List W) × (m ≡ Some ws)
  some_parts r None w e = none_some e
  some_parts r (Some ws) w e = (ws, refl)

  module _ (cur : ℕ) (env : Env) (r : Rec) (ts : Trees) (st : State) (os : Symbols)
      (k : OwesAll st cur env r.opcode 0 false ts os) (nd : Node) (right : NodeFor os.0 os.1 nd)
      (o : ℕ × State) (f : HasKeyIn F cur r os.0 nd os.2 o) where
    abbrev op_of : Values W → Option W
    op_of ms = applied sem r (eval_all sem ts ms)

    module _ (i : Prefix F o.1) (h : Here F st cur) where
      mid : Prefix F os.2
      mid = prefix_back os.2 o.1 f.grows i

      first : After F st os.2 cur
      first = k.after mid h

      here : Here F os.2 cur
      here = here_later F st os.2 cur k.grows h first

      op_after : After F st o.1 cur
      op_after = after_join F st os.2 o.1 cur k.grows f.grows first (f.after i here)

      module _ (ms : Values W) (w : W) (ev : EnvValued sem F env ms cur) (q : op_of ms ≡ Some w) where
        abbrev vals : List (Option W)
        vals = eval_all sem ts ms

        abbrev kids : List (Option W)
        kids = map (value_at sem F) os.0

        got : (ws : List W) × (found_from sem r.opcode 0 (get_or vals 0 None) vals ≡ Some ws)
        unfolding applied
        got = some_parts r (found_from sem r.opcode 0 (get_or vals 0 None) vals) w q

        ops : OperandsHave st os.2 cur r.opcode 0 (get_or vals 0 None) vals os.0 os.1
        ops = k.operands refl mid h ms (get_or vals 0 None) got.0 ev got.1

        -- a symbol with this record and these children
        found_of_lem : (s : ℕ) → s < length F.syms → rec_at F.syms s ≡ r → sym_kids F.syms s ≡ os.0 →
            value_at sem F s ≡ Some w
        found_of_lem s l e d =
            value_is sem F.syms s (F.low s l)
            ∙ (ap₂ (λ (z : Rec) (y : List ℕ). applied sem z (map (value_at sem F) y)) e d
            ∙ (applied-agrees sem r vals kids ops.agree ∙ q))

        kids_for : KidsLive sem F.syms (entered_from sem F cur ops.live) r.opcode 0 (get_or kids 0 None) os.0 (thunks_of nd)
        kids_for = rw (first-agrees sem r.opcode (get_or vals 0 None) vals kids ops.agree) (go right.1)
          where
            Live : List ℕ → List ℕ → Type 0
            Live ks brs = KidsLive sem F.syms (entered_from sem F cur ops.live) r.opcode 0 (get_or vals 0 None) ks brs

            go : (thunks_of nd ≡ os.1) ⊎ (os.0 ≡ []) → Live os.0 (thunks_of nd)
            go (inl e) = rw e ops.kids_live
            go (inr e) = subst (λ (z : List ℕ). Live z (thunks_of nd)) (sym e) tt

        new_live : (x : ℕ) → sym_count os.2 ≤ x → x < sym_count o.1 →
            SymLive sem F.syms (entered_from sem F cur ops.live) x
        new_live x l m =
            let s = f.made x l m in
            let rec_is = ap (λ (z : ℕ). rec_at F.syms z) s ∙ f.rec_is i here in
            let kids_is = ap (λ (z : ℕ). sym_kids F.syms z) s ∙ f.kids_is i here in
            let node_is = f.node_is i here x l m in
            record {
              found = w;
              found_is = found_of_lem x (omega (arith, i.counts)) rec_is kids_is;
              node_is = rw node_is right.0;
              kids_live = rw (rec_is, kids_is, node_is) kids_for;
            }

        op_valued : HasValue sem F st o.1 cur o.0 w
        op_valued = record {
          found_is = found_of_lem o.0 (f.low i here) (f.rec_is i here) (f.kids_is i here);
          scope_in = f.scope_in i here;
          live = ops.live;
          living = living_more sem F st os.2 o.1 cur ops.live (omega (arith, f.same_scopes)) ops.living new_live;
        }

    op_kept : Owes sem F st cur env op_of o
    op_kept = record {
      grows = grow_then k.grows f.grows;
      after = op_after;
      valued = λ i h ms w ev q. op_valued i h ms w ev q;
    }

  pub intern_general_keeps : (at cur : ℕ) (env : Env) (r : Rec) (ts : Trees) (st : State) (m : Outs) →
      FitsWith r (many ts) → Holds (OwesAll st cur env r.opcode 0 false ts) m →
      Holds (Owes sem F st cur env (λ ms. applied sem r (eval_all sem ts ms))) (intern_general at cur r m)
  unfolding intern_general
  intern_general_keeps at cur env r ts st m f h =
      holds_bind (OwesAll st cur env r.opcode 0 false ts)
      (Owes sem F st cur env (λ ms. applied sem r (eval_all sem ts ms))) m _ h λ os k.
      holds_map (HasKeyIn F cur r os.0 (node_of r os.1) os.2)
      (Owes sem F st cur env (λ ms. applied sem r (eval_all sem ts ms)))
      (finish at cur r os.0 [] (node_of r os.1) os.2)
      (finish_is F cur r os.0 (node_of r os.1) os.2 at) λ o d.
      op_kept cur env r ts st os k (node_of r os.1) (node_of_for r os.0 os.1 (rw k.count f)) o d
