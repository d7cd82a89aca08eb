-- A record's children, one after the other: operands, of which some may be skipped, or a block's definitions and result.
-- In order: the last child (`intern_last_keeps`); no child (`nil_keeps`); a child, and then the others (`cons_keeps`), as
-- operands and as a block's.
-- Assumes nothing.
use mathlib.Core.Path.{◌≡◌, refl, ap, sym, subst, ◌∙◌}
use mathlib.Core.Bool.{Bool, true, false, not, ◌&&◌}
use Rattle.std.specs.Prelude.{Option, None, Some}
use mathlib.Core.List.{List, [], ◌∷◌, ◌++◌}
use Prim.Native.Nat.{ℕ, suc, ◌≤◌}
use native.Mathlib.Omega.{arith}
use lib.Dec.{eqb}
use lib.ListN.{length}
use Rattle.model.specs.Lists.{last}
use Rattle.model.specs.Tree.{Tree, Trees, nil, cons, many, is_nil, top}
use Rattle.model.specs.Binding.{is_def, id_of}
use Rattle.model.specs.Intern.{State, Env, Outs, resolve, bind_def, thunked, branch, intern_last}
use Rattle.model.specs.Failing.{◌>>=◌, Semantics, Values, value_in, skipped, found_from, eval, eval_all, eval_last}
use Rattle.laws.proofs.Apart.{none_some}
use Rattle.laws.proofs.Holds.{Holds, holds_bind}
use Rattle.laws.specs.Members.{In}
use Rattle.laws.proofs.Members.{clash, in_right}
use Rattle.theory.specs.Good.{sym_count, scope_count}
use Rattle.theory.proofs.Interning.Inv.{grow_none, grow_then}
use Rattle.theory.proofs.Interning.Keep.{Symbols}
use Rattle.theory.proofs.Interning.Operands.{bind_def_is, bind_def_other}
use Rattle.theory.proofs.Failing.Values.{skipped-thunked, not-skipped, KidsLive}
use Rattle.theory.proofs.Failing.Live.{Final, Prefix, prefix_back, home, outwards, Here, After, here_later}
use Rattle.theory.proofs.Failing.Live.{after_none, after_join, sub_left, sub_right, kids_more, entered_from, Living}
use Rattle.theory.proofs.Failing.Live.{living_none, living_join}
use Rattle.theory.proofs.Failing.Thunks.{value_at, EnvValued, HasValue, Owes, HasValueIn, OwesIn}
use Rattle.theory.proofs.Failing.Symbols.{OperandsHave, NoThunks, OwesAll}

module _ {W : Type 0} (sem : Semantics W) (F : Final) where
  -- ---- the last child, of a block or a definition

  pub intern_last_keeps : (cur op : ℕ) (env : Env) (b : Bool) (ts : Trees) (st : State) (m : Outs) → NoThunks sem F op →
      (b ≡ false → many ts ≡ 1) → Holds (OwesAll sem F st cur env op 0 b ts) m →
      Holds (Owes sem F st cur env (λ ms. eval_last sem ts ms)) (intern_last m)
  unfolding intern_last
  intern_last_keeps cur op env b ts st m nt one h =
      holds_bind (OwesAll sem F st cur env op 0 b ts) (Owes sem F st cur env (λ ms. eval_last sem ts ms)) m _ h λ os k.
      record {
        grows = k.grows;
        after = k.after;
        valued = λ i h ms w ev q. k.result nt one i h ms w ev q;
      }

  -- ---- no child

  pub nil_keeps : (op j cur : ℕ) (env : Env) (b : Bool) (st : State) → OwesAll sem F st cur env op j b nil ([], [], st)
  unfolding many eval_all
  nil_keeps op j cur env b st = record {
    count = refl;
    grows = grow_none st;
    after = λ i h. after_none F st cur h;
    empty = λ e. omega arith;
    operands = λ e i h ms c ws ev q. record {
      agree = tt;
      live = [];
      living = living_none sem F st st cur (omega arith);
      kids_live = tt;
    };
    result = λ nt one i h ms w ev q. none_some q;
  }

  -- ---- a child, and then the others

  found_parts : (o : Option W) (m : Option (List W)) (ws : List W) →
      (o >>= λ v. m >>= λ vs. Some (v ∷ vs)) ≡ Some ws → ((w : W) × (o ≡ Some w)) × ((vs : List W) × (m ≡ Some vs))
  found_parts None m ws e = none_some e
  found_parts (Some w) None ws e = none_some e
  found_parts (Some w) (Some vs) ws e = ((w, refl), (vs, refl))

  module _ (op j cur : ℕ) (env : Env) (b : Bool) (t : Tree) (ts : Trees) (st : State)
      (def : is_def t ≡ (b && not (is_nil ts))) (o : ℕ × State) (os : Symbols)
      (h : OwesIn sem F (thunked op j) st cur env (λ ms. eval sem t ms) o)
      (k : OwesAll sem F o.1 cur (bind_def t o.0 env) op (suc j) b ts os) where
    abbrev s : ℕ
    s = o.0

    abbrev brs : List ℕ
    brs = branch (thunked op j) (scope_count st) os.1

    module _ (i : Prefix F os.2) (at : Here F st cur) where
      mid : Prefix F o.1
      mid = prefix_back o.1 os.2 k.grows i

      first : After F st o.1 cur
      first = h.after mid at

      here : Here F o.1 cur
      here = here_later F st o.1 cur h.grows at first

      second : After F o.1 os.2 cur
      second = k.after i here

      both_after : After F st os.2 cur
      both_after = after_join F st o.1 os.2 cur h.grows k.grows first second

      join : (ys zs : List ℕ) → Living sem F st o.1 cur ys → Living sem F o.1 os.2 cur zs →
          Living sem F st os.2 cur (ys ++ zs)
      join ys zs p q = living_join sem F st o.1 os.2 cur ys zs h.grows k.grows first second p q

      -- ---- as operands, of which the first entered scopes ys and the others zs

      kids_cons : (c : Option W) (ys zs : List ℕ) →
          (skipped sem op j c ≡ false → In (home F s) (entered_from sem F cur ys)) →
          (skipped sem op j c ≡ false → thunked op j ≡ true → In (scope_count st) ys) →
          KidsLive sem F.syms (entered_from sem F cur zs) op (suc j) c os.0 os.1 →
          KidsLive sem F.syms (entered_from sem F cur (ys ++ zs)) op j c (s ∷ os.0) brs
      kids_cons c ys zs p q r =
          go (thunked op j) refl os.1
          (kids_more sem F (entered_from sem F cur zs) M (sub_right (outwards F cur) ys zs) op (suc j) c os.0 os.1 r)
        where
          M : List ℕ
          M = entered_from sem F cur (ys ++ zs)

          own : skipped sem op j c ≡ false → In (home F s) M
          own e = sub_left (outwards F cur) ys zs (home F s) (p e)

          go : (x : Bool) → thunked op j ≡ x → (bs : List ℕ) → KidsLive sem F.syms M op (suc j) c os.0 bs →
              KidsLive sem F.syms M op j c (s ∷ os.0) (branch x (scope_count st) bs)
          go true e bs r = (
            own,
            rw e (λ f. sub_left (outwards F cur) ys zs (scope_count st) (in_right _ (outwards F cur) ys (q f e)), r),
          )
          go false e [] r = (e, own (not-skipped sem op j c e), r)
          go false e (d ∷ bs) r = (own, rw e r)

      module _ (ms : Values W) (c : Option W) (ws : List W) (ev : EnvValued sem F env ms cur) (plain : is_def t ≡ false)
          (f : b ≡ false) where
        abbrev rest : List (Option W)
        rest = eval_all sem ts ms

        tail : (vs : List W) → found_from sem op (suc j) c rest ≡ Some vs →
            OperandsHave sem F o.1 os.2 cur op (suc j) c rest os.0 os.1
        tail vs q =
            let valued : Env → Type 0 = λ e. EnvValued sem F e ms cur in
            k.operands f i here ms c vs (subst valued (sym (bind_def_other t s env plain)) ev) q

        cons-operands : (x : Bool) → skipped sem op j c ≡ x →
            elim x [
              | true ↦ found_from sem op (suc j) c rest
              | false ↦ eval sem t ms >>= λ v. found_from sem op (suc j) c rest >>= λ vs. Some (v ∷ vs)
            ] ≡ Some ws →
            OperandsHave sem F st os.2 cur op j c (eval sem t ms ∷ rest) (s ∷ os.0) brs
        cons-operands true e q =
            let z = tail ws q in
            let never : skipped sem op j c ≡ false → ⊥ = λ g. clash _ e g in
            record {
              agree = (λ g. absurd (never g), z.agree);
              live = [] ++ z.live;
              living = join [] z.live (h.unread (skipped-thunked sem op j c e) mid at) z.living;
              kids_live = kids_cons c [] z.live (λ g. absurd (never g)) (λ g. absurd (never g)) z.kids_live;
            }
        cons-operands false e q =
            let p = found_parts (eval sem t ms) (found_from sem op (suc j) c rest) ws q in
            let y = h.valued mid at ms p.0.0 ev p.0.1 in
            let z = tail p.1.0 p.1.1 in
            record {
              agree = (λ g. y.found_is ∙ sym p.0.1, z.agree);
              live = y.live ++ z.live;
              living = join y.live z.live y.living z.living;
              kids_live = kids_cons c y.live z.live (λ g. y.scope_in) (λ g. y.thunk_in) z.kids_live;
            }

      -- ---- as a block's children

      bound-more : (a x : ℕ) (u : W) (e : Env) (ms : Values W) → value_at sem F x ≡ Some u → In (home F x) (outwards F cur) →
          EnvValued sem F e ms cur → EnvValued sem F ((a, x) ∷ e) ((a, u) ∷ ms) cur
      unfolding value_in resolve
      bound-more a x u e ms v p ev y w q = go (eqb a y) q
        where
          go : (z : Bool) → elim z [ true ↦ Some u | false ↦ value_in ms y ] ≡ Some w →
              (value_at sem F (elim z [ true ↦ x | false ↦ resolve e y ]) ≡ Some w)
              × In (home F (elim z [ true ↦ x | false ↦ resolve e y ])) (outwards F cur)
          go true q = (v ∙ q, p)
          go false q = ev y w q

      cons_result : NoThunks sem F op → (b ≡ false → many (cons t ts) ≡ 1) → (ms : Values W) (w : W) →
          EnvValued sem F env ms cur → eval_last sem (cons t ts) ms ≡ Some w →
          HasValue sem F st os.2 cur (last (s ∷ os.0)) w
      unfolding many last eval_last
      cons_result nt one ms w ev q =
          go ts os.0 k.count b def one k.empty (λ f m u z p. k.result nt f i here m u z p) q
        where
          -- what the others owe
          Rest : List ℕ → Trees → Type 0
          Rest ks ts = (m : Values W) (u : W) → EnvValued sem F (bind_def t s env) m cur → eval_last sem ts m ≡ Some u →
              HasValue sem F o.1 os.2 cur (last ks) u

          head : (u : W) → eval sem t ms ≡ Some u → HasValueIn sem F (thunked op j) st o.1 cur s u
          head u p = h.valued mid at ms u ev p

          step : (v : Tree) (vs : Trees) (x : ℕ) (ks : List ℕ) (r : Option W) → eval sem t ms ≡ r → is_def t ≡ true →
              Rest (x ∷ ks) (cons v vs) → (r >>= λ y. eval_last sem (cons v vs) ((id_of (top t), y) ∷ ms)) ≡ Some w →
              HasValue sem F st os.2 cur (last (s ∷ x ∷ ks)) w
          step v vs x ks None e d rest q = none_some q
          step v vs x ks (Some y) e d rest q =
              let a = head y e in
              let bound = bound-more (id_of (top t)) s y env ms a.found_is (a.plain_in (nt j)) ev in
              let valued : Env → Type 0 = λ e. EnvValued sem F e ((id_of (top t), y) ∷ ms) cur in
              let z = rest ((id_of (top t), y) ∷ ms) w (subst valued (sym (bind_def_is t s env d)) bound) q in
              record {
                found_is = z.found_is;
                scope_in = z.scope_in;
                live = a.live ++ z.live;
                living = join a.live z.live a.living z.living;
              }

          go : (ts : Trees) (ks : List ℕ) → length ks ≡ many ts → (b : Bool) → is_def t ≡ (b && not (is_nil ts)) →
              (b ≡ false → suc (many ts) ≡ 1) → (is_nil ts ≡ true → sym_count os.2 ≤ sym_count o.1) →
              ((b ≡ false → many ts ≡ 1) → Rest ks ts) → eval_last sem (cons t ts) ms ≡ Some w →
              HasValue sem F st os.2 cur (last (s ∷ ks)) w
          go nil [] l b d f g rest q =
              let a = head w q in
              record {
                found_is = a.found_is;
                scope_in = a.plain_in (nt j);
                live = a.live ++ [];
                living = join a.live [] a.living (living_none sem F o.1 os.2 cur (g refl));
              }
          go nil (x ∷ ks) l b d f g rest q = absurd (omega arith)
          go (cons v vs) [] l b d f g rest q = absurd (omega arith)
          go (cons v vs) (x ∷ ks) l false d f g rest q = absurd (omega (arith, f refl))
          go (cons v vs) (x ∷ ks) l true d f g rest q =
              step v vs x ks (eval sem t ms) refl d (rest (λ e. absurd (clash true refl e))) q

    pub cons_keeps : OwesAll sem F st cur env op j b (cons t ts) (o.0 ∷ os.0, brs, os.2)
    unfolding many eval_all found_from
    cons_keeps = record {
      count = ap suc k.count;
      grows = grow_then h.grows k.grows;
      after = both_after;
      empty = λ e. absurd (clash false e refl);
      operands = λ e i at ms c ws ev q.
          cons-operands i at ms c ws ev (def ∙ ap (λ (z : Bool). z && not (is_nil ts)) e) e (skipped sem op j c) refl q;
      result = λ nt one i at ms w ev q. cons_result i at nt one ms w ev q;
    }
