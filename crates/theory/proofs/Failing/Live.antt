-- Interning, seen from its end: tables line up with the open scopes (`Here`), new symbols are in the current scope or in
-- a new one (`After`), and those in entered scopes are live (`Living`).
-- In order: the end, and states seen from it; lists of scopes; tables; what every reading keeps; live symbols in more
-- scopes; entered scopes, one reading after the other.
-- Assumes nothing.
use mathlib.Core.Path.{◌≡◌, refl}
use mathlib.Core.Logic.{◌⊎◌, inl, inr}
use mathlib.Core.Bool.{Bool, true, false}
use Rattle.std.specs.Prelude.{Option, None}
use mathlib.Core.List.{List, [], ◌∷◌, ◌++◌}
use Prim.Native.Nat.{ℕ, suc, ◌≤◌, ◌<◌}
use native.Mathlib.Omega.{arith}
use lib.Dec.{ltb}
use lib.ListN.{length, get_or}
use borrow.Author.Tests.{ltb-true, ltb-false}
use Rattle.model.specs.Intern.{Sym, Scope, State, root_scope, enter, drop_first, thunked}
use Rattle.model.specs.Failing.{Semantics, skipped}
use Rattle.laws.specs.Members.{In, Every}
use Rattle.laws.proofs.Members.{in_left, in_right, in_either}
use Rattle.theory.specs.Good.{sym_kids, scope_at, node_at, sym_count, scope_count, out}
use Rattle.theory.specs.Inv.{InAny, Grow, Fits}
use Rattle.theory.proofs.Interning.Inv.{fits_back}
use Rattle.theory.proofs.Failing.Values.{thunks_of, KidsLive, SymLive}

-- ---- the end of interning

-- its symbols, whose children are lower, and its scopes
pub record Final : Type 0 where
  pub syms : List Sym
  pub scopes : List Scope
  pub low : (s : ℕ) → s < length syms → (k : ℕ) → In k (sym_kids syms s) → k < s

-- a state has the first of its symbols and scopes
pub record Prefix (F : Final) (st : State) : Type 0 where
  pub fits : Fits F.syms F.scopes st
  pub counts : sym_count st ≤ length F.syms

pub prefix_back : {F : Final} (a b : State) → Grow a b → Prefix F b → Prefix F a
prefix_back {F} a b g w = record {
  fits = fits_back F.syms F.scopes a b g w.fits;
  counts = omega (arith, w.counts, g.more_syms);
}

-- ---- lists of scopes, one within another

abbrev pub Sub : List ℕ → List ℕ → Type 0
Sub M N = (b : ℕ) → In b M → In b N

-- in a list joined of three
three : (b : ℕ) (xs ys zs : List ℕ) → In b (xs ++ (ys ++ zs)) → In b xs ⊎ (In b ys ⊎ In b zs)
three b xs ys zs m = go (in_either b xs (ys ++ zs) m)
  where
    go : In b xs ⊎ In b (ys ++ zs) → In b xs ⊎ (In b ys ⊎ In b zs)
    go (inl k) = inl k
    go (inr k) = inr (in_either b ys zs k)

pub sub_left : (xs ys zs : List ℕ) → Sub (xs ++ ys) (xs ++ (ys ++ zs))
sub_left xs ys zs b m = go (in_either b xs ys m)
  where
    go : In b xs ⊎ In b ys → In b (xs ++ (ys ++ zs))
    go (inl k) = in_left b xs (ys ++ zs) k
    go (inr k) = in_right b xs (ys ++ zs) (in_left b ys zs k)

pub sub_right : (xs ys zs : List ℕ) → Sub (xs ++ zs) (xs ++ (ys ++ zs))
sub_right xs ys zs b m = go (in_either b xs zs m)
  where
    go : In b xs ⊎ In b zs → In b (xs ++ (ys ++ zs))
    go (inl k) = in_left b xs (ys ++ zs) k
    go (inr k) = in_right b xs (ys ++ zs) (in_right b ys zs k)

below_or_not : (x m : ℕ) → (x < m) ⊎ (m ≤ x)
below_or_not x m = go (ltb x m) refl
  where
    go : (b : Bool) → ltb x m ≡ b → (x < m) ⊎ (m ≤ x)
    go true e = inl (ltb-true x m e)
    go false e = inr (ltb-false x m e)

module _ (F : Final) where
  -- the scope of a symbol; a scope with those around it
  abbrev pub home : ℕ → ℕ
  home x = scope_at F.syms x

  abbrev pub outwards : ℕ → List ℕ
  outwards cur = out F.scopes cur

  -- ---- tables line up with the open scopes, and hold symbols below m

  abbrev pub Lined : ℕ → List (List ℕ) → List ℕ → Type 0
  Lined m [] cs = Unit {0}
  Lined m (t ∷ ts) [] = ⊥
  Lined m (t ∷ ts) (c ∷ cs) = Every (λ i. (i < m) × (home i ≡ c)) t × Lined m ts cs

  pub lined_has : (m i : ℕ) (ts : List (List ℕ)) (cs : List ℕ) → Lined m ts cs → InAny i ts → (i < m) × In (home i) cs
  lined_has m i [] cs h k = absurd k
  lined_has m i (t ∷ ts) [] h k = absurd h
  lined_has m i (t ∷ ts) (c ∷ cs) h (inl k) = ((h.0 i k).0, inl (h.0 i k).1)
  lined_has m i (t ∷ ts) (c ∷ cs) h (inr k) = let w = lined_has m i ts cs h.1 k in (w.0, inr w.1)

  lined_more : (m p : ℕ) → m ≤ p → (ts : List (List ℕ)) (cs : List ℕ) → Lined m ts cs → Lined p ts cs
  lined_more m p l [] cs h = tt
  lined_more m p l (t ∷ ts) [] h = h
  lined_more m p l (t ∷ ts) (c ∷ cs) h =
      (λ x k. (omega (arith, (h.0 x k).0), (h.0 x k).1), lined_more m p l ts cs h.1)

  pub lined_enter : (m p i : ℕ) (ts : List (List ℕ)) (c : ℕ) (cs : List ℕ) → m ≤ p → i < p → home i ≡ c →
      Lined m ts (c ∷ cs) → Lined p (enter i ts) (c ∷ cs)
  lined_enter m p i [] c cs k l e h = tt
  lined_enter m p i (t ∷ ts) c cs k l e h = (every, lined_more m p k ts cs h.1)
    where
      every : Every (λ x. (x < p) × (home x ≡ c)) (i ∷ t)
      every x (inl q) = rw q (l, e)
      every x (inr q) = (omega (arith, (h.0 x q).0), (h.0 x q).1)

  pub lined_drop : (m : ℕ) (ts : List (List ℕ)) (c : ℕ) (cs : List ℕ) → Lined m ts (c ∷ cs) → Lined m (drop_first ts) cs
  lined_drop m [] c cs h = tt
  lined_drop m (t ∷ ts) c cs h = h.1

  -- ---- what every reading keeps

  -- before a reading in scope cur: the scopes around are there, cur is no lambda's, and the tables line up with them
  pub record Here (st : State) (cur : ℕ) : Type 0 where
    pub opens : Every (λ b. b < scope_count st) (outwards cur)
    pub plain : (get_or F.scopes cur root_scope).args ≡ None
    pub lined : Lined (sym_count st) st.tables (outwards cur)

  -- after it: each new symbol is in cur or in a new scope
  pub record After (st st' : State) (cur : ℕ) : Type 0 where
    pub lined : Lined (sym_count st') st'.tables (outwards cur)
    pub placed : (x : ℕ) → sym_count st ≤ x → x < sym_count st' →
        ((home x ≡ cur) ⊎ (scope_count st ≤ home x)) × (home x < scope_count st')

  pub here_later : (st st' : State) (cur : ℕ) → Grow st st' → Here st cur → After st st' cur → Here st' cur
  here_later st st' cur g h a = record {
    opens = λ b m. omega (arith, h.opens b m, g.more_scopes);
    plain = h.plain;
    lined = a.lined;
  }

  pub after_none : (st : State) (cur : ℕ) → Here st cur → After st st cur
  after_none st cur h = record { lined = h.lined; placed = λ x l m. absurd (omega arith) }

  pub after_join : (a b c : State) (cur : ℕ) → Grow a b → Grow b c → After a b cur → After b c cur → After a c cur
  after_join a b c cur g k p q = record { lined = q.lined; placed = λ x l m. placed x l m (below_or_not x (sym_count b)) }
    where
      up : (x : ℕ) → ((home x ≡ cur) ⊎ (scope_count b ≤ home x)) → ((home x ≡ cur) ⊎ (scope_count a ≤ home x))
      up x (inl e) = inl e
      up x (inr l) = inr (omega (arith, g.more_scopes))

      placed : (x : ℕ) → sym_count a ≤ x → x < sym_count c → (x < sym_count b) ⊎ (sym_count b ≤ x) →
          ((home x ≡ cur) ⊎ (scope_count a ≤ home x)) × (home x < scope_count c)
      placed x l m (inl k') = let w = p.placed x l k' in (w.0, omega (arith, w.1, k.more_scopes))
      placed x l m (inr k') = let w = q.placed x k' m in (up x w.0, w.1)

module _ {W : Type 0} (sem : Semantics W) (F : Final) where
  -- ---- live symbols in more scopes

  pub kids_more : (M N : List ℕ) → Sub M N → (op j : ℕ) (c : Option W) (ks brs : List ℕ) →
      KidsLive sem F.syms M op j c ks brs → KidsLive sem F.syms N op j c ks brs
  kids_more M N s op j c [] brs h = tt
  kids_more M N s op j c (k ∷ ks) [] h = (h.0, s (home F k) h.1, kids_more M N s op (suc j) c ks [] h.2)
  kids_more M N s op j c (k ∷ ks) (b ∷ brs) h =
      (λ e. s (home F k) (h.0 e), go (thunked op j) h.1 (λ cs. kids_more M N s op (suc j) c ks cs))
    where
      Rest : List ℕ → Bool → Type 0
      Rest M t = elim t as (λ z. Type 0) [
        | true ↦ (skipped sem op j c ≡ false → In b M) × KidsLive sem F.syms M op (suc j) c ks brs
        | false ↦ KidsLive sem F.syms M op (suc j) c ks (b ∷ brs)
      ]

      go : (t : Bool) → Rest M t →
          ((cs : List ℕ) → KidsLive sem F.syms M op (suc j) c ks cs →
          KidsLive sem F.syms N op (suc j) c ks cs) → Rest N t
      go true q rest = (λ e. s b (q.0 e), rest brs q.1)
      go false q rest = rest (b ∷ brs) q

  pub sym_more : (M N : List ℕ) → Sub M N → (x : ℕ) → SymLive sem F.syms M x → SymLive sem F.syms N x
  sym_more M N s x h = record {
    found = h.found;
    found_is = h.found_is;
    node_is = h.node_is;
    kids_live = kids_more M N s _ 0 _ (sym_kids F.syms x) (thunks_of (node_at F.syms x)) h.kids_live;
  }

  -- ---- entered scopes: of a reading from st to st' in scope cur, those in `live` are new and have been entered

  -- scopes that are entered, seen from scope cur
  abbrev pub entered_from : ℕ → List ℕ → List ℕ
  entered_from cur live = outwards F cur ++ live

  pub record Living (st st' : State) (cur : ℕ) (live : List ℕ) : Type 0 where
    pub bounds : (b : ℕ) → In b live → (scope_count st ≤ b) × (b < scope_count st')
    pub lives : (x : ℕ) → sym_count st ≤ x → x < sym_count st' → In (home F x) (entered_from cur live) →
        SymLive sem F.syms (entered_from cur live) x

  pub living_none : (st st' : State) (cur : ℕ) → sym_count st' ≤ sym_count st → Living st st' cur []
  living_none st st' cur l = record { bounds = λ b m. absurd m; lives = λ x p q m. absurd (omega arith) }

  pub living_join : (a b c : State) (cur : ℕ) (ys zs : List ℕ) → Grow a b → Grow b c → After F a b cur →
      After F b c cur → Living a b cur ys → Living b c cur zs → Living a c cur (ys ++ zs)
  living_join a b c cur ys zs g k p q h i = record {
    bounds = λ s m. bounds s (in_either s ys zs m);
    lives = λ x l m w. lives x l m (below_or_not x (sym_count b)) (three (home F x) (outwards F cur) ys zs w);
  }
    where
      Live : ℕ → Type 0
      Live x = SymLive sem F.syms (entered_from cur (ys ++ zs)) x

      bounds : (s : ℕ) → In s ys ⊎ In s zs → (scope_count a ≤ s) × (s < scope_count c)
      bounds s (inl m) = let w = h.bounds s m in (w.0, omega (arith, w.1, k.more_scopes))
      bounds s (inr m) = let w = i.bounds s m in (omega (arith, w.0, g.more_scopes), w.1)

      old : (x : ℕ) → sym_count a ≤ x → x < sym_count b → In (home F x) (entered_from cur ys) → Live x
      old x l m w = sym_more _ _ (sub_left (outwards F cur) ys zs) x (h.lives x l m w)

      new : (x : ℕ) → sym_count b ≤ x → x < sym_count c → In (home F x) (entered_from cur zs) → Live x
      new x l m w = sym_more _ _ (sub_right (outwards F cur) ys zs) x (i.lives x l m w)

      -- a symbol of the second reading is in no scope that the first entered: it is in cur or in a newer one
      late : (x : ℕ) → sym_count b ≤ x → x < sym_count c → home F x < scope_count b →
          (home F x ≡ cur) ⊎ (scope_count b ≤ home F x) → Live x
      late x l m s (inl e) = new x l m (in_left (home F x) (outwards F cur) zs (inl e))
      late x l m s (inr e) = absurd (omega arith)

      lives : (x : ℕ) → sym_count a ≤ x → x < sym_count c → (x < sym_count b) ⊎ (sym_count b ≤ x) →
          In (home F x) (outwards F cur) ⊎ (In (home F x) ys ⊎ In (home F x) zs) → Live x
      lives x l m (inl e) (inl w) = old x l e (in_left (home F x) (outwards F cur) ys w)
      lives x l m (inl e) (inr (inl w)) = old x l e (in_right (home F x) (outwards F cur) ys w)
      lives x l m (inl e) (inr (inr w)) = absurd (omega (arith, (p.placed x l e).1, (i.bounds (home F x) w).0))
      lives x l m (inr e) (inl w) = new x e m (in_left (home F x) (outwards F cur) zs w)
      lives x l m (inr e) (inr (inl w)) = late x e m (h.bounds (home F x) w).1 (q.placed x e m).0
      lives x l m (inr e) (inr (inr w)) = new x e m (in_right (home F x) (outwards F cur) zs w)

  -- one more symbol after a reading, live in the scopes that the reading entered
  pub living_more : (a b c : State) (cur : ℕ) (ys : List ℕ) → scope_count b ≤ scope_count c → Living a b cur ys →
      ((x : ℕ) → sym_count b ≤ x → x < sym_count c → SymLive sem F.syms (entered_from cur ys) x) →
      Living a c cur ys
  living_more a b c cur ys s h new = record {
    bounds = λ t m. let w = h.bounds t m in (w.0, omega (arith, w.1));
    lives = λ x l m w. lives x l m w (below_or_not x (sym_count b));
  }
    where
      lives : (x : ℕ) → sym_count a ≤ x → x < sym_count c → In (home F x) (entered_from cur ys) →
          (x < sym_count b) ⊎ (sym_count b ≤ x) → SymLive sem F.syms (entered_from cur ys) x
      lives x l m w (inl e) = h.lives x l e w
      lives x l m w (inr e) = new x e m
