-- Interning a record keeps a state sound, if reading its children does: `kind_keeps`, a record by its kind, which
-- Trees uses. Each record read leaves room for a slot and a scope more than before, which its parent takes.
-- In order: ids and their symbols; children; the opts of a lambda; each kind of record.
-- Assumes nothing.
use mathlib.Core.Path.{◌≡◌, refl, sym}
use mathlib.Core.Logic.{inl, inr}
use mathlib.Core.Bool.{Bool, true, false, ◌||◌}
use Rattle.std.specs.Prelude.{Option, None, Some}
use mathlib.Core.List.{List, [], ◌∷◌, ◌++◌}
use Prim.Native.Nat.{ℕ, zero, suc, ◌+◌, ◌-◌, ◌≤◌, ◌<◌}
use native.Mathlib.Omega.{arith}
use lib.Dec.{eqb}
use lib.ListN.{length, get_or, take, drop}
use borrow.Author.Tests.{eqb-false}
use Rattle.model.specs.Lists.{last}
use Rattle.model.specs.Answer.{◌>>=◌}
use Rattle.model.specs.Tree.{Rec, Tree, Trees, node, nil, cons, many, top}
use Rattle.model.specs.Shape.{a_opt, shapes}
use Rattle.model.specs.Binding.{Kind, kind, val_use, val_def, block, lambda, field, other, is_def, id_of, opt_of, args_of}
use Rattle.model.specs.Binding.{arg_ids, inside, after, unbound}
use Rattle.model.specs.Intern.{Node, constant, unparsed, func, operation, State, Out, Outs, Env, Kids, sym_at, resolve}
use Rattle.model.specs.Intern.{finish, bind_args, with_opts, bind_def, open_scope, alloc_args, pair_projection, thunked}
use Rattle.model.specs.Intern.{node_of, intern_last, intern_general, intern_field, intern_func, intern_kind}
use Rattle.laws.specs.Clear.{Clear}
use Rattle.laws.proofs.Holds.{Holds, holds_bind, holds_map}
use Rattle.laws.specs.Members.{In, Every, Under}
use Rattle.laws.proofs.Members.{clash}
use Rattle.laws.specs.ArgLists.{syms_in, opts_in, bound_by}
use Rattle.laws.proofs.ArgLists.{args_length, with_opts_syms, with_opts_opts, with_opts-length}
use Rattle.theory.specs.Checked.{Fine}
use Rattle.theory.proofs.Acceptance.Records.{kind_shape, def_child, fits_at, field_child, lam_child, op_field}
use Rattle.theory.proofs.Acceptance.Records.{op_lambda, lam_rec, use_bound}
use Rattle.theory.specs.Good.{sym_count, scope_count}
use Rattle.theory.specs.Inv.{keys}
use Rattle.theory.specs.Sound.{RecHas, OptsHave, NodeSound, StateSound, Room, thunks, Pays}
use Rattle.theory.proofs.Interning.Keep.{last_in_lem}
use Rattle.theory.proofs.Bounds.Sound.{every_take, every_drop}
use Rattle.theory.proofs.Bounds.Sound.{room_less, under_more, Keeps, keeps_none, keeps_then, keeps_less}
use Rattle.theory.proofs.Bounds.Sound.{KeepsOne, KeepsArgs, KeepsAll, one_then, one_less, all_then}
use Rattle.theory.proofs.Bounds.Steps.{finish_keeps, alloc_args_keeps, projections_keep, field_thunks, open_sound}
use Rattle.theory.proofs.Bounds.Steps.{open_room, open_more}

-- ---- ids and their symbols

-- these ids are bound, to symbols below n
abbrev pub EnvLow : List ℕ → Env → ℕ → Type 0
EnvLow ids env n = (i : ℕ) → In i ids → In i (keys env) × (resolve env i < n)

pub env_more : (ids : List ℕ) (env : Env) (n m : ℕ) → n ≤ m → EnvLow ids env n → EnvLow ids env m
env_more ids env n m l h i k = ((h i k).0, omega (arith, (h i k).1))

env_one : (j s : ℕ) (ids : List ℕ) (env : Env) (n : ℕ) → s < n → EnvLow ids env n → EnvLow (j ∷ ids) ((j, s) ∷ env) n
unfolding resolve
env_one j s ids env n l h i k = (key k, go (eqb j i) refl k)
  where
    key : In i (j ∷ ids) → In i (j ∷ keys env)
    key (inl p) = inl p
    key (inr k) = inr (h i k).0

    go : (b : Bool) → eqb j i ≡ b → In i (j ∷ ids) → elim b [ true ↦ s | false ↦ resolve env i ] < n
    go true e k = l
    go false e (inl p) = absurd (eqb-false j i e (sym p))
    go false e (inr k) = (h i k).1

pub env_def : (t : Tree) (s : ℕ) (ids : List ℕ) (env : Env) (n : ℕ) → s < n → EnvLow ids env n →
    EnvLow (after t ++ ids) (bind_def t s env) n
unfolding after bind_def
env_def t s ids env n l h = go (is_def t)
  where
    go : (b : Bool) → EnvLow (elim b [ true ↦ id_of (top t) ∷ [] | false ↦ [] ] ++ ids)
        (elim b [ true ↦ (id_of (top t), s) ∷ env | false ↦ env ]) n
    go true = env_one (id_of (top t)) s ids env n l h
    go false = h

env_args : (xs : List (ℕ × List ℕ)) (ss ids : List ℕ) (env : Env) (n : ℕ) → length ss ≡ length xs → Under n ss →
    EnvLow ids env n → EnvLow (syms_in xs ++ ids) (bind_args xs ss env) n
env_args [] ss ids env n e u h = h
env_args (x ∷ xs) [] ids env n e u h = absurd (omega arith)
env_args (x ∷ xs) (s ∷ ss) ids env n e u h =
    env_one x.0 s (syms_in xs ++ ids) (bind_args xs ss env) n (u s (inl refl))
    (env_args xs ss ids env n (omega arith) (λ y k. u y (inr k)) h)

-- ---- children

-- the children that open no thunk
abbrev pub plain_kids : ℕ → ℕ → Trees → ℕ
plain_kids op j nil = 0
plain_kids op j (cons t ts) =
    elim (thunked op j) [ true ↦ plain_kids op (suc j) ts | false ↦ suc (plain_kids op (suc j) ts) ]

abbrev pub KidsKeep : (ℕ → Type 0) → List ℕ → ℕ → Trees → Kids → Type 0
KidsKeep B ids op ts kids =
    (cur : ℕ) (env : Env) (st : State) (k c : ℕ) → StateSound B st → cur < scope_count st → EnvLow ids env (sym_count st) →
    Room st k c → Pays op c → Holds (KeepsAll B st (k + many ts) (c + plain_kids op 0 ts) (many ts) op 0)
    (kids cur env st)

pub last_under : (n : ℕ) (ks : List ℕ) → 1 ≤ length ks → Under n ks → last ks < n
last_under n ks l h = h (last ks) (last_in_lem ks l)

last_keeps : (B : ℕ → Type 0) (st : State) (k c n op : ℕ) (m : Outs) → 1 ≤ n → Holds (KeepsAll B st k c n op 0) m →
    Holds (KeepsOne B st k c) (intern_last m)
unfolding intern_last
last_keeps B st k c n op m l h =
    holds_bind (KeepsAll B st k c n op 0) (KeepsOne B st k c) m _ h λ os w.
    record { keeps = w.keeps; low = last_under (sym_count os.2) os.0 (omega (arith, w.count)) w.low }

node_of_lem : (B : ℕ → Type 0) (i m : ℕ) (r : Rec) (ks brs : List ℕ) → Under m brs → length brs ≡ thunks r.opcode 0 ks →
    NodeSound B i m r ks (node_of r brs)
unfolding node_of
node_of_lem B i m r ks brs h l = go (eqb r.shape 0) refl (eqb r.shape 1) refl
  where
    go : (x : Bool) → eqb r.shape 0 ≡ x → (y : Bool) → eqb r.shape 1 ≡ y →
        NodeSound B i m r ks (elim x [ true ↦ constant | false ↦ elim y [ true ↦ unparsed | false ↦ operation brs ] ])
    go true e y f = tt
    go false e true f = tt
    go false e false f = (h, omega (arith, eqb-false r.shape 0 e, eqb-false r.shape 1 f), l)

-- ---- the opts of a lambda

opt_has : (B : ℕ → Type 0) (bs : List ℕ) → Every B bs → Every B (opt_of bs)
unfolding opt_of
opt_has B bs h = go (a_opt bs)
  where
    go : (o : Option (List ℕ)) → Every B (elim o [ None ↦ [] | Some rest ↦ take (length bs - length rest) bs ])
    go None = λ x i. absurd i
    go (Some rest) = every_take B (length bs - length rest) bs h

args_have : (B : ℕ → Type 0) (n : ℕ) (bs : List ℕ) → Every B bs → OptsHave B (opts_in (args_of n bs))
unfolding args_of
args_have B zero bs h = tt
args_have B (suc n) bs h =
    (opt_has B (drop 4 bs) (every_drop B 4 bs h), args_have B n _ (every_drop B (4 + length (opt_of (drop 4 bs))) bs h))

-- ---- a record, by its kind

pub inside_of : (r : Rec) (k : Kind) → kind r.shape ≡ k →
    inside r ≡ elim k [ val_use ↦ [] | val_def ↦ [] | block ↦ [] | lambda ↦ arg_ids r | field ↦ [] | other ↦ [] ]
unfolding inside
inside_of r k e = rw (e, inside)

pub lambda_plain : (op : ℕ) → op ≡ 0xD9 → (j : ℕ) → thunked op j ≡ false
unfolding thunked
lambda_plain op e j = rw e refl

lambda_kids : (op : ℕ) (ts : Trees) → op ≡ 0xD9 → many ts ≡ 1 → plain_kids op 0 ts ≡ 1
unfolding many
lambda_kids op nil e m = absurd (omega arith)
lambda_kids op (cons t nil) e m = rw (lambda_plain op e 0, plain_kids) refl
lambda_kids op (cons t (cons u ts)) e m = absurd (omega arith)

module _ (B : ℕ → Type 0) (b0 : B 0) (b1 : B 1) (b2 : B 2) (at cur : ℕ) (r : Rec) (ts : Trees) (has : RecHas B r)
    (fine : Fine (node r ts)) (ids : List ℕ) (known : Clear (unbound (node r ts) ids)) (env : Env) (kids : Kids)
    (kk : KidsKeep B (inside r ++ ids) r.opcode ts kids) (st : State) (k c : ℕ) (sound : StateSound B st)
    (low : cur < scope_count st) (envs : EnvLow ids env (sym_count st)) (room : Room st (suc k) (suc c)) where
  abbrev Post : ℕ × State → Type 0
  Post = KeepsOne B st (suc k) (suc c)

  abbrev Kept : List ℕ × List ℕ × State → Type 0
  Kept = KeepsAll B st (suc k + many ts) (suc c) (many ts) r.opcode 0

  -- a use is of an id that is bound
  use_low : kind r.shape ≡ val_use → In (id_of r) (keys env) × (resolve env (id_of r) < sym_count st)
  use_low e = envs (id_of r) (use_bound r ts ids known (kind_shape r.shape val_use e).shape)

  -- the children of a record that is no lambda, from a later state
  kids_keep : (inside r ≡ []) → (st' : State) (j d : ℕ) → Keeps B st st' j (suc d) →
      Holds (KeepsAll B st (j + many ts) (suc d) (many ts) r.opcode 0) (kids cur env st')
  kids_keep e st' j d w =
      holds_map (KeepsAll B st' (j + many ts) (suc d + plain_kids r.opcode 0 ts) (many ts) r.opcode 0)
      (KeepsAll B st (j + many ts) (suc d) (many ts) r.opcode 0) (kids cur env st')
      (kk cur env st' j (suc d) w.sound (omega (arith, w.more_scopes)) envs' w.room (λ i t. omega arith)) λ os v.
      all_then w v (omega arith) (omega arith)
    where
      envs' : EnvLow (inside r ++ ids) env (sym_count st')
      envs' = rw e (env_more ids env (sym_count st) (sym_count st') w.more_syms envs)

  first_kids : (inside r ≡ []) → Holds Kept (kids cur env st)
  first_kids e = kids_keep e st (suc k) c (keeps_none sound room)

  -- a key's symbol, from a later state
  key_keeps : (ks own : List ℕ) (nd : Node) (st' : State) (j : ℕ) → suc k + length ks ≤ j → Keeps B st st' j (suc c) →
      Under (sym_count st') ks → NodeSound B (sym_count st') (scope_count st') r ks nd → Holds Post
      (finish at cur r ks own nd st')
  key_keeps ks own nd st' j l w ul ns =
      holds_map (KeepsOne B st' (suc k) (suc c)) Post (finish at cur r ks own nd st')
      (finish_keeps B at cur r has ks own nd st' (suc k) (suc c) (suc k) (omega arith) (omega arith) w.sound
      (omega (arith, w.more_scopes)) ul ns (room_less st' j (suc c) (suc k + length ks) (suc c) l (omega arith)
      w.room)) λ o v.
      one_then w v

  general_keeps : (m : Outs) (j : ℕ) → suc k + many ts ≤ j → Holds (KeepsAll B st j (suc c) (many ts) r.opcode 0) m →
      Holds Post (intern_general at cur r m)
  unfolding intern_general
  general_keeps m j l h =
      holds_bind (KeepsAll B st j (suc c) (many ts) r.opcode 0) Post m _ h λ os w.
      key_keeps os.0 [] (node_of r os.1) os.2 j (omega (arith, w.count)) w.keeps w.low
      (node_of_lem B (sym_count os.2) (scope_count os.2) r os.0 os.1 w.branches w.thunks_are)

  field_keeps : kind r.shape ≡ field →
      Holds Post (kids cur env st >>= λ os. intern_field at cur r env kids os.0 os.2)
  unfolding intern_field
  field_keeps e =
      holds_bind Kept Post (kids cur env st) (λ os. intern_field at cur r env kids os.0 os.2)
      (first_kids none_inside) λ os w.
      fields os w (eqb (get_or r.lit 0 0) 1 || eqb (get_or r.lit 0 0) 2)
      (eqb (sym_at os.2.syms (last os.0)).rec.shape 16)
    where
      none_inside : inside r ≡ []
      none_inside = inside_of r field e

      s17 : r.shape ≡ 17
      s17 = (kind_shape r.shape field e).shape

      op : r.opcode ≡ 0x8C
      op = op_field r s17 fine.1

      one : many ts ≡ 1
      one = field_child r (many ts) s17 fine.0

      projected : (os : List ℕ × List ℕ × State) → Kept os →
          Holds Post (pair_projection at cur r (get_or r.lit 0 0) (last os.0) os.2)
      projected os w =
          holds_map (KeepsOne B os.2 (suc k) (suc c)) Post
          (pair_projection at cur r (get_or r.lit 0 0) (last os.0) os.2)
          (projections_keep B b0 b1 b2 at cur r has s17 op (get_or r.lit 0 0) (last os.0) os.2 k (suc c)
          w.keeps.sound
          (omega (arith, w.keeps.more_scopes)) (last_under (sym_count os.2) os.0 (omega (arith, w.count, one))
          w.low)
          (room_less os.2 (suc k + many ts) (suc c) (suc k) (suc c) (omega arith) (omega arith) w.keeps.room))
          λ o v. one_then w.keeps v

      fields : (os : List ℕ × List ℕ × State) → Kept os → (x y : Bool) → Holds Post (elim x as (λ z. Out) [
        | false ↦ finish at cur r os.0 [] (operation []) os.2
        | true ↦ elim y [
          | false ↦ pair_projection at cur r (get_or r.lit 0 0) (last os.0) os.2
          | true ↦ intern_general at cur r (kids cur env os.2)
        ]
      ])
      fields os w false y =
          key_keeps os.0 [] (operation []) os.2 (suc k + many ts) (omega (arith, w.count)) w.keeps w.low
          (λ x i. absurd i, omega (arith, s17), sym (field_thunks r.opcode op os.0))
      fields os w true false = projected os w
      fields os w true true =
          general_keeps (kids cur env os.2) (suc k + many ts + many ts) (omega arith)
          (kids_keep none_inside os.2 (suc k + many ts) c w.keeps)

  lambda_keeps : kind r.shape ≡ lambda → Holds Post (intern_func at cur r env kids st)
  unfolding intern_func arg_ids
  lambda_keeps e =
      holds_bind (KeepsArgs B st (suc k) (suc c) (length xs)) Post (alloc_args at cur r xs st) _
      (alloc_args_keeps B at cur r has xs st (suc k) (suc c) sound low room) λ md w. body md w
    where
      xs : List (ℕ × List ℕ)
      xs = bound_by r

      s12 : r.shape ≡ 12
      s12 = (kind_shape r.shape lambda e).shape

      op : r.opcode ≡ 0xD9
      op = op_lambda r s12 fine.1

      one : many ts ≡ 1
      one = lam_child r (many ts) s12 fine.0

      few : length (bound_by r) ≤ 15
      few = omega (arith, args_length r.aux r.lit, (lam_rec r (many ts) s12 fine.0 fine.1).aux_low)

      body : (md : List ℕ × List ℕ × State) → KeepsArgs B st (suc k) (suc c) (length (bound_by r)) md →
          Holds Post (kids (scope_count md.2) (bind_args (bound_by r) md.0 env)
          (open_scope cur (Some md.0) md.2.tables md.2) >>=
          λ os. finish at cur r os.0 md.0 (func (with_opts (bound_by r) md.0) (scope_count md.2)) os.2)
      body md w =
          holds_bind (KeepsAll B st2 (suc k + many ts) (c + plain_kids r.opcode 0 ts) (many ts) r.opcode 0) Post
          (kids sc env' st2) _
          (kk sc env' st2 (suc k) c sound2 (omega (arith, opened)) envs2
          (open_room cur (Some as') md.2.tables md.2 (suc k) c w.keeps.room)
          (λ j t. absurd (clash (thunked r.opcode j) t (lambda_plain r.opcode op j)))) λ os v.
          key_keeps os.0 as' (func (with_opts xs as') sc) os.2 (suc k + many ts) (omega (arith, v.count))
          (keeps_then later
          (keeps_less v.keeps (omega arith) (omega (arith, lambda_kids r.opcode ts op one))))
          v.low (node_sound os v)
        where
          as' : List ℕ
          as' = md.0

          sc : ℕ
          sc = scope_count md.2

          env' : Env
          env' = bind_args (bound_by r) md.0 env

          st2 : State
          st2 = open_scope cur (Some md.0) md.2.tables md.2

          opened : scope_count (open_scope cur (Some md.0) md.2.tables md.2) ≡ suc (scope_count md.2)
          opened = open_more cur (Some md.0) md.2.tables md.2

          sound2 : StateSound B (open_scope cur (Some md.0) md.2.tables md.2)
          sound2 =
              open_sound B cur (Some md.0) md.2.tables md.2 w.keeps.sound
              (omega (arith, w.keeps.more_scopes)) w.low
              w.keeps.sound.tables_open (λ i h. h)

          later : Keeps B st (open_scope cur (Some md.0) md.2.tables md.2) (suc k) c
          later = record {
            sound = sound2;
            room = open_room cur (Some as') md.2.tables md.2 (suc k) c w.keeps.room;
            more_syms = w.keeps.more_syms;
            more_scopes = omega (arith, opened, w.keeps.more_scopes);
            tables_kept = w.keeps.tables_kept;
          }

          envs2 : EnvLow (inside r ++ ids) (bind_args (bound_by r) md.0 env) (sym_count md.2)
          envs2 = rw (inside_of r lambda e) (env_args (bound_by r) md.0 ids env (sym_count md.2) w.count w.low
              (env_more ids env (sym_count st) (sym_count md.2) w.keeps.more_syms envs))

          node_sound : (os : List ℕ × List ℕ × State) →
              KeepsAll B st2 (suc k + many ts) (c + plain_kids r.opcode 0 ts) (many ts) r.opcode 0 os →
              NodeSound B (sym_count os.2) (scope_count os.2) r os.0
              (func (with_opts (bound_by r) md.0) (scope_count md.2))
          node_sound os v = (
            omega (arith, opened, v.keeps.more_scopes),
            rw (with_opts_syms (bound_by r) md.0 w.count)
                (under_more (sym_count md.2) (sym_count os.2) md.0 v.keeps.more_syms w.low),
            omega (arith, few, with_opts-length (bound_by r) md.0 w.count),
            rw (with_opts_opts (bound_by r) md.0 w.count) (args_have B r.aux r.lit has.lit_has),
          )

  -- a block or a definition gives the symbol of its last child
  last_child : 1 ≤ many ts → inside r ≡ [] → Holds Post (intern_last (kids cur env st))
  last_child l e =
      holds_map (KeepsOne B st (suc k + many ts) (suc c)) Post (intern_last (kids cur env st))
      (last_keeps B st (suc k + many ts) (suc c) (many ts) r.opcode (kids cur env st) l (first_kids e)) λ o w.
      one_less w (omega arith) (omega arith)

  pub kind_keeps : (kd : Kind) → kind r.shape ≡ kd → Holds Post (intern_kind kd at cur r env kids st)
  unfolding intern_kind shapes
  kind_keeps val_use e = record { keeps = keeps_none sound room; low = (use_low e).1 }
  kind_keeps val_def e =
      last_child (omega (arith, def_child r (many ts) (kind_shape r.shape val_def e).shape fine.0))
      (inside_of r val_def e)
  kind_keeps block e =
      last_child (fits_at r (many ts) 11 (kind_shape r.shape block e).shape fine.0).least_is
      (inside_of r block e)
  kind_keeps lambda e = lambda_keeps e
  kind_keeps field e = field_keeps e
  kind_keeps other e =
      general_keeps (kids cur env st) (suc k + many ts) (omega arith) (first_kids (inside_of r other e))
