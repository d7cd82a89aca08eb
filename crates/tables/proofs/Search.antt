-- Laws of the search, `lookup_in` and `lookup` of model. In order: one entry more; one table more; entries from the
-- newest down; tables from the newest down.
-- Assumes nothing.
use Prim.Native.Nat.{ℕ, zero, suc, ◌+◌, ◌-◌, ◌<◌, ◌≤◌}
use mathlib.Core.Path.{◌≡◌, ap, ◌∙◌}
use mathlib.Core.Bool.{Bool, true, false}
use Rattle.std.specs.Prelude.{Option, None, Some}
use mathlib.Core.List.{List, ◌∷◌}
use native.Mathlib.Omega.{arith}
use lib.ListN.{get_or}
use Rattle.model.specs.Tree.{Rec}
use Rattle.model.specs.Intern.{Sym, is_key, lookup_in, lookup}
use Rattle.laws.specs.Stack.{stack_of}
use Rattle.laws.proofs.Stack.{stack_newest}
use Rattle.tables.specs.Tables.{entry_symbol, entries, tables}

module _ (ss : List Sym) (r : Rec) (ks : List ℕ) where
  -- ---- one entry more

  abbrev or_rest : ℕ → List ℕ → Bool → Option ℕ
  or_rest s es t = elim t [ true ↦ Some s | false ↦ lookup_in ss r ks es ]

  entry_hit : (s : ℕ) (es : List ℕ) → is_key ss r ks s ≡ true → lookup_in ss r ks (s ∷ es) ≡ Some s
  unfolding lookup_in
  entry_hit s es e = ap (or_rest s es) e

  entry_miss : (s : ℕ) (es : List ℕ) → is_key ss r ks s ≡ false → lookup_in ss r ks (s ∷ es) ≡ lookup_in ss r ks es
  unfolding lookup_in
  entry_miss s es e = ap (or_rest s es) e

  -- ---- one table more

  abbrev or_older : List (List ℕ) → Option ℕ → Option ℕ
  or_older ts o = elim o [ Some i ↦ Some i | None ↦ lookup ss r ks ts ]

  table_hit : (t : List ℕ) (ts : List (List ℕ)) (s : ℕ) → lookup_in ss r ks t ≡ Some s → lookup ss r ks (t ∷ ts) ≡ Some s
  unfolding lookup
  table_hit t ts s e = ap (or_older ts) e

  table_miss : (t : List ℕ) (ts : List (List ℕ)) → lookup_in ss r ks t ≡ None →
      lookup ss r ks (t ∷ ts) ≡ lookup ss r ks ts
  unfolding lookup
  table_miss t ts e = ap (or_older ts) e

  module _ (ws : List ℕ) where
    -- ---- entries from the newest down: those from `start` up to k

    entries_newest : (start k : ℕ) → start < k →
        entries ws start (k - start) ≡ entry_symbol ws (k - 1) ∷ entries ws start (k - 1 - start)
    unfolding entries
    entries_newest start k lt =
        let e : k - start - 1 ≡ k - 1 - start = omega arith in
        let f : start + (k - 1 - start) ≡ k - 1 = omega arith in
        stack_newest (λ j. entry_symbol ws (start + j)) (k - start) (omega arith) ∙ rw (e, f)

    pub entries-end : (start k : ℕ) → k ≤ start → lookup_in ss r ks (entries ws start (k - start)) ≡ None
    unfolding entries stack_of lookup_in
    entries-end start k le = let e : k - start ≡ 0 = omega arith in rw e

    pub entries_hit : (start k : ℕ) → start < k → is_key ss r ks (entry_symbol ws (k - 1)) ≡ true →
        lookup_in ss r ks (entries ws start (k - start)) ≡ Some (entry_symbol ws (k - 1))
    entries_hit start k lt e =
        ap (lookup_in ss r ks) (entries_newest start k lt)
        ∙ entry_hit (entry_symbol ws (k - 1)) (entries ws start (k - 1 - start)) e

    pub entries_miss : (start k : ℕ) → start < k → is_key ss r ks (entry_symbol ws (k - 1)) ≡ false →
        lookup_in ss r ks (entries ws start (k - start)) ≡ lookup_in ss r ks (entries ws start (k - 1 - start))
    entries_miss start k lt e =
        ap (lookup_in ss r ks) (entries_newest start k lt)
        ∙ entry_miss (entry_symbol ws (k - 1)) (entries ws start (k - 1 - start)) e

    module _ (base : List ℕ) where
      -- ---- tables from the newest down: the d oldest, which end at entry `end`

      pub tables_end : (d end : ℕ) → d ≤ 0 → lookup ss r ks (tables ws base d end) ≡ None
      unfolding tables lookup
      tables_end d end le = let e : d ≡ 0 = omega arith in rw e

      module _ (d end start : ℕ) (newest : start ≡ get_or base (d - 1) 0) (some : 0 < d) where
        tables_newest : tables ws base d end ≡ entries ws start (end - start) ∷ tables ws base (d - 1) start
        unfolding tables
        tables_newest = rw newest (go d some)
          where
            go : (k : ℕ) → 0 < k → tables ws base k end ≡
                entries ws (get_or base (k - 1) 0) (end - get_or base (k - 1) 0)
                ∷ tables ws base (k - 1) (get_or base (k - 1) 0)
            go zero lt = absurd (omega arith)
            go (suc k) lt = let e : suc k - 1 ≡ k = omega arith in rw e

        pub tables_hit : (s : ℕ) → lookup_in ss r ks (entries ws start (end - start)) ≡ Some s →
            lookup ss r ks (tables ws base d end) ≡ Some s
        tables_hit s e =
            ap (lookup ss r ks) tables_newest
            ∙ table_hit (entries ws start (end - start)) (tables ws base (d - 1) start) s e

        pub tables_miss : lookup_in ss r ks (entries ws start (end - start)) ≡ None →
            lookup ss r ks (tables ws base d end) ≡ lookup ss r ks (tables ws base (d - 1) start)
        tables_miss e =
            ap (lookup ss r ks) tables_newest
            ∙ table_miss (entries ws start (end - start)) (tables ws base (d - 1) start) e
