-- What reading a tree owes, if the tree has a value, and a child in its own thunk or not.
-- In order: what a reading owes (`Owes`); what a child's owes (`OwesIn`); in the parent's scope; in a thunk of its own,
-- which is entered, or skipped (`intern_scoped_keeps`).
-- Assumes nothing.
use mathlib.Core.Path.{◌≡◌, refl, ap}
use mathlib.Core.Logic.{◌⊎◌, inl, inr}
use mathlib.Core.Bool.{Bool, true, false}
use Rattle.std.specs.Prelude.{Option, None, Some}
use mathlib.Core.List.{List, [], ◌∷◌}
use Prim.Native.Nat.{ℕ, suc, ◌≤◌, ◌<◌}
use native.Mathlib.Omega.{arith}
use lib.ListN.{get_or}
use Rattle.model.specs.Intern.{Scope, State, Env, Out, root_scope, resolve, open_thunk, close_thunk, intern_scoped}
use Rattle.model.specs.Failing.{Semantics, Values, value_in}
use Rattle.laws.proofs.Holds.{Holds, holds_bind, holds_map}
use Rattle.laws.specs.Members.{In, Every}
use Rattle.laws.proofs.Members.{clash, in_left, in_right, in_either}
use Rattle.theory.specs.Good.{sym_count, scope_count, around_at}
use Rattle.theory.specs.Inv.{Grow}
use Rattle.theory.proofs.Interning.Inv.{grow-same, grow_then}
use Rattle.theory.proofs.Interning.Push.{one_more}
use Rattle.theory.proofs.Interning.Scopes.{open_grows, open_is}
use Rattle.theory.proofs.Failing.Values.{value, SymLive}
use Rattle.theory.proofs.Failing.Live.{Final, Prefix, prefix_back, home, outwards, lined_drop, Here, After, Sub}
use Rattle.theory.proofs.Failing.Live.{sym_more, entered_from, Living}

module _ {W : Type 0} (sem : Semantics W) (F : Final) where
  -- ---- what a reading owes

  -- the value of a symbol
  abbrev pub value_at : ℕ → Option W
  value_at s = value sem F.syms s

  -- each id with a value is bound to a symbol with that value, in an open scope
  abbrev pub EnvValued : Env → Values W → ℕ → Type 0
  EnvValued env ms cur = (i : ℕ) (w : W) → value_in ms i ≡ Some w →
      (value_at (resolve env i) ≡ Some w) × In (home F (resolve env i)) (outwards F cur)

  pub record HasValue (st st' : State) (cur s : ℕ) (w : W) : Type 0 where
    pub found_is : value_at s ≡ Some w
    pub scope_in : In (home F s) (outwards F cur)
    pub live : List ℕ
    pub living : Living sem F st st' cur live

  -- of a tree with value e, by the values of ids
  pub record Owes (st : State) (cur : ℕ) (env : Env) (e : Values W → Option W) (o : ℕ × State) : Type 0 where
    pub grows : Grow st o.1
    pub after : Prefix F o.1 → Here F st cur → After F st o.1 cur
    pub valued : Prefix F o.1 → Here F st cur → (ms : Values W) (w : W) → EnvValued env ms cur → e ms ≡ Some w →
        HasValue st o.1 cur o.0 w

  -- ---- a child, in its own thunk if t

  -- the scopes entered with it, among them the thunk
  pub record HasValueIn (t : Bool) (st st' : State) (cur s : ℕ) (w : W) : Type 0 where
    pub found_is : value_at s ≡ Some w
    pub live : List ℕ
    pub living : Living sem F st st' cur live
    pub scope_in : In (home F s) (entered_from sem F cur live)
    pub plain_in : t ≡ false → In (home F s) (outwards F cur)
    pub thunk_in : t ≡ true → In (scope_count st) live

  -- a thunk that is skipped makes no symbol from cur outwards (`unread`)
  pub record OwesIn (t : Bool) (st : State) (cur : ℕ) (env : Env) (e : Values W → Option W) (o : ℕ × State) : Type 0 where
    pub grows : Grow st o.1
    pub after : Prefix F o.1 → Here F st cur → After F st o.1 cur
    pub unread : t ≡ true → Prefix F o.1 → Here F st cur → Living sem F st o.1 cur []
    pub valued : Prefix F o.1 → Here F st cur → (ms : Values W) (w : W) → EnvValued env ms cur → e ms ≡ Some w →
        HasValueIn t st o.1 cur o.0 w

  module _ (cur : ℕ) (st : State) (env : Env) (e : Values W → Option W) where
    -- ---- in the parent's scope

    plain_kept : (o : ℕ × State) → Owes st cur env e o → OwesIn false st cur env e o
    plain_kept o k = record {
      grows = k.grows;
      after = k.after;
      unread = λ t. absurd (clash false t refl);
      valued = λ i h ms w ev q. let v = k.valued i h ms w ev q in record {
        found_is = v.found_is;
        live = v.live;
        living = v.living;
        scope_in = in_left (home F o.0) (outwards F cur) v.live v.scope_in;
        plain_in = λ t. v.scope_in;
        thunk_in = λ t. absurd (clash false t refl);
      };
    }

    -- ---- in a thunk of its own

    module _ (o : ℕ × State) (k : Owes (open_thunk cur st) (scope_count st) env e o) where
      closes : Grow o.1 (close_thunk o.1)
      closes = grow-same o.1 (close_thunk o.1) refl refl

      thunk_grows : Grow st (close_thunk o.1)
      thunk_grows = grow_then (grow_then (open_grows cur None ([] ∷ st.tables) st) k.grows) closes

      module _ (i : Prefix F (close_thunk o.1)) (h : Here F st cur) where
        inner : Prefix F o.1
        inner = prefix_back o.1 (close_thunk o.1) closes i

        is : get_or F.scopes (scope_count st) root_scope ≡ record { around = outwards F cur; args = None }
        is =
            open_is F.syms F.scopes cur None ([] ∷ st.tables) st (h.opens cur (inl refl))
            (prefix_back (open_thunk cur st) o.1 k.grows inner).fits

        around_is : around_at F.scopes (scope_count st) ≡ outwards F cur
        around_is = ap (λ (z : Scope). z.around) is

        more : scope_count (open_thunk cur st) ≡ suc (scope_count st)
        more = one_more st.scopes _

        in_thunk : Here F (open_thunk cur st) (scope_count st)
        in_thunk = record {
          opens = opens;
          plain = ap (λ (z : Scope). z.args) is;
          lined = (λ x m. absurd m, rw around_is h.lined);
        }
          where
            opens : Every (λ b. b < scope_count (open_thunk cur st)) (outwards F (scope_count st))
            opens b (inl p) = omega (arith, more)
            opens b (inr m) = omega (arith, more, h.opens b (rw around_is at m))

        after_thunk : After F (open_thunk cur st) o.1 (scope_count st)
        after_thunk = k.after inner in_thunk

        new_scope_lem : (x : ℕ) → sym_count st ≤ x → x < sym_count o.1 → scope_count st ≤ home F x
        new_scope_lem x l m = go (after_thunk.placed x l m).0
          where
            go : (home F x ≡ scope_count st) ⊎ (scope_count (open_thunk cur st) ≤ home F x) → scope_count st ≤ home F x
            go (inl p) = omega arith
            go (inr p) = omega (arith, more)

        thunk_after : After F st (close_thunk o.1) cur
        thunk_after = record {
          lined = rw around_is at (lined_drop F (sym_count o.1) o.1.tables (scope_count st)
              (around_at F.scopes (scope_count st)) after_thunk.lined);
          placed = λ x l m. (inr (new_scope_lem x l m), (after_thunk.placed x l m).1);
        }

        thunk_unread : Living sem F st (close_thunk o.1) cur []
        thunk_unread = record { bounds = λ b m. absurd m; lives = λ x l m w. lives x l m (in_either _ (outwards F cur) [] w) }
          where
            lives : (x : ℕ) → sym_count st ≤ x → x < sym_count o.1 → In (home F x) (outwards F cur) ⊎ In (home F x) [] →
                SymLive sem F.syms (entered_from sem F cur []) x
            lives x l m (inl w) = absurd (omega (arith, h.opens (home F x) w, new_scope_lem x l m))
            lives x l m (inr w) = absurd w

        module _ (ms : Values W) (w : W) (env-is : EnvValued env ms cur) (q : e ms ≡ Some w) where
          v : HasValue (open_thunk cur st) o.1 (scope_count st) o.0 w
          v = k.valued inner in_thunk ms w (λ i x p. let y = env-is i x p in (y.0, inr (rw around_is y.1))) q

          -- the same scopes, listed in another order
          inward : Sub (entered_from sem F cur (scope_count st ∷ v.live)) (entered_from sem F (scope_count st) v.live)
          inward b m = go (in_either b (outwards F cur) (scope_count st ∷ v.live) m)
            where
              go : In b (outwards F cur) ⊎ In b (scope_count st ∷ v.live) → In b (entered_from sem F (scope_count st) v.live)
              go (inl p) = in_left b (outwards F (scope_count st)) v.live (inr (rw around_is p))
              go (inr (inl p)) = inl p
              go (inr (inr p)) = in_right b (outwards F (scope_count st)) v.live p

          outward : Sub (entered_from sem F (scope_count st) v.live) (entered_from sem F cur (scope_count st ∷ v.live))
          outward b m = go (in_either b (outwards F (scope_count st)) v.live m)
            where
              go : In b (outwards F (scope_count st)) ⊎ In b v.live → In b (entered_from sem F cur (scope_count st ∷ v.live))
              go (inl (inl p)) = in_right b (outwards F cur) (scope_count st ∷ v.live) (inl p)
              go (inl (inr p)) = in_left b (outwards F cur) (scope_count st ∷ v.live) (rw around_is at p)
              go (inr p) = in_right b (outwards F cur) (scope_count st ∷ v.live) (inr p)

          thunk_valued : HasValueIn true st (close_thunk o.1) cur o.0 w
          thunk_valued = record {
            found_is = v.found_is;
            live = scope_count st ∷ v.live;
            living = record {
              bounds = bounds;
              lives = λ x l m p. sym_more sem F _ _ outward x (v.living.lives x l m (inward (home F x) p));
            };
            scope_in = outward (home F o.0) (in_left _ (outwards F (scope_count st)) v.live v.scope_in);
            plain_in = λ t. absurd (clash true refl t);
            thunk_in = λ t. inl refl;
          }
            where
              bounds : (b : ℕ) → In b (scope_count st ∷ v.live) → (scope_count st ≤ b) × (b < scope_count o.1)
              bounds b (inl p) = (omega arith, omega (arith, more, k.grows.more_scopes))
              bounds b (inr p) = let y = v.living.bounds b p in (omega (arith, more, y.0), y.1)

      thunk_kept : OwesIn true st cur env e (o.0, close_thunk o.1)
      thunk_kept = record {
        grows = thunk_grows;
        after = thunk_after;
        unread = λ t i h. thunk_unread i h;
        valued = λ i h ms w ev q. thunk_valued i h ms w ev q;
      }

    pub intern_scoped_keeps : (t : Bool) (child : ℕ → State → Out) →
        ((c : ℕ) (s : State) → Holds (Owes s c env e) (child c s)) →
        Holds (OwesIn t st cur env e) (intern_scoped t cur child st)
    unfolding intern_scoped
    intern_scoped_keeps false child h =
        holds_map (Owes st cur env e) (OwesIn false st cur env e) (child cur st) (h cur st) plain_kept
    intern_scoped_keeps true child h =
        holds_bind (Owes (open_thunk cur st) (scope_count st) env e) (OwesIn true st cur env e)
        (child (scope_count st) (open_thunk cur st)) _ (h (scope_count st) (open_thunk cur st)) thunk_kept
