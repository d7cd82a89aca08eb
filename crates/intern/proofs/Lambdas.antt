-- A lambda: its arguments refused, its body read or refused, and its symbol.
-- Assumes nothing.
use Prim.Native.Nat.{ℕ, ◌+◌, ◌<◌}
use mathlib.Core.Path.{◌≡◌, refl, sym, ap, ◌∙◌}
use mathlib.Core.Bool.{false}
use Rattle.std.specs.Prelude.{Some, Ok, Err, IsOk}
use Rattle.std.proofs.lemmas.Result.{MatchResult-at_ok, MatchResult-at_err}
use mathlib.Core.List.{List, []}
use native.Mathlib.Omega.{arith}
use lib.ListN.{length}
use Rattle.regions.specs.Regions.{SCOPES}
use Rattle.model.specs.Tree.{Rec, depth}
use Rattle.model.specs.Binding.{args_of}
use Rattle.model.specs.Intern.{Out, Env, finish, func, with_opts, bind_args, open_scope, intern_func}
use Rattle.model.specs.Intern as intern
use Rattle.laws.specs.Range.{range}
use Rattle.refusal.specs.declared.Refusal.{Refusal}
use Rattle.refusal.specs.Refusal.{number_of}
use Rattle.record.specs.Record.{row_at}
use Rattle.shape.proofs.Fitting.{fits_func}
use Rattle.walk.specs.Walk.{rec_at, kid_trees_at}
use Rattle.walk.proofs.Bridge.{row_fits}
use Rattle.symbols.specs.Words.{pending_from}
use Rattle.scopes.specs.Scopes.{scope_word, parent_of, args_in}
use Rattle.bindings.specs.Bindings.{env_of}
use Rattle.tables.specs.declared.Tables.{Tables}
use Rattle.interner.specs.declared.State.{State}
use Rattle.interner.specs.declared.Step.{Step}
use Rattle.interner.specs.State.{abs_of}
use Rattle.interner.specs.Step.{refusal_of, step_of, Answers, BodyOf}
use Rattle.concluding.specs.Concluding.{Concludes}
use Rattle.standing.specs.Standing.{WellAll}
use Rattle.standing.proofs.Enter.{lambda_well}
use Rattle.intern.specs.declared.Here.{Here}
use Rattle.intern.specs.Steps.{KidsStep, Entered}
use Rattle.intern.specs.declared.Inside.{Inside}
use Rattle.intern.specs.Words.{Kept}
use Rattle.intern.specs.Intern.{Reads, kids_read, Operands, ReadsAll, args_made, Body}
use Rattle.intern.specs.Intern.{Enters}
use Rattle.intern.proofs.Kept.{kept_then}
use Rattle.intern.proofs.Bodies.{lambda_kind, Lambda}
use Rattle.intern.proofs.Records.{reads_refused, reads_answers, Below, Gave, kids_operands, kids_fail, kids_gave}
use Rattle.intern.proofs.Cases.{func_refused, func_kids_refused, func_good}

module _ {bs ws : List ℕ} {t : Tables} {st : State} {i : ℕ} {at : Here} (h : Lambda bs ws t st i at) {ws₁ : List ℕ}
    {e : Entered} (enters : Enters bs ws t st i at ws₁ e) where
  abbrev r : Rec
  r = rec_at bs i

  abbrev env : Env
  env = env_of ws at.top

  abbrev out : Out
  out = intern_func i at.scope r env (kids_read bs i) (abs_of bs ws t st)

  -- the arguments are refused
  pub lambda_unmade : {x : Refusal} → e.inside ≡ Err x → Reads bs ws t st i at out ws₁ (step_of e.st (Err x))
  lambda_unmade {x} n =
      reads_refused enters.kept enters.rep enters.opened x
      (func_refused i at.scope r env (kids_read bs i) (abs_of bs ws t st) (number_of x.check) x.place
      (MatchResult-at_err (Body bs ws t st i at ws₁ e.st)
      (λ (x : Refusal). args_made bs i at.scope (abs_of bs ws t st) ≡ refusal_of x) x n enters.opens))

  lambda_one : ◌≡◌ {A = ℕ} 1 (row_at bs i).kids
  lambda_one = sym (fits_func (row_at bs i) (row_fits bs i h.sound.fit h.there) h.shape).0

  module _ {d : Inside} (ok : e.inside ≡ Ok d) where
    body : Body bs ws t st i at ws₁ e.st d
    body =
        MatchResult-at_ok (Body bs ws t st i at ws₁ e.st)
        (λ (x : Refusal). args_made bs i at.scope (abs_of bs ws t st) ≡ refusal_of x) d ok enters.opens

    abbrev own : List ℕ
    own = range d.first r.aux

    abbrev inner : Env
    inner = bind_args (args_of r.aux r.lit) own env

    abbrev opened : intern.State
    opened = open_scope at.scope (Some own) body.made.tables body.made

    below : Below bs ws₁ t e.st i d.at
    unfolding depth
    below = record {
      stands = record {
        rep = enters.rep;
        opened = enters.opened;
        scope = body.body.low;
        held = omega (arith, body.held, h.stands.held);
        top = omega (arith, body.most, h.stands.top, h.stands.level);
        level = omega (arith, body.level, h.stands.level);
        tables = omega (arith, h.stands.tables);
      };
      room = omega (arith, h.stands.tables);
    }

    well : WellAll (kid_trees_at bs i) false r.opcode 0 d.at.scope (env_of ws₁ d.at.top) (abs_of bs ws₁ t e.st) 1
    well =
        rw (body.scope, body.env, body.abs)
        (lambda_well h.counted.legible.well (lambda_kind _ h.shape) h.counted.few i (own, [], body.made)
        (ap (args_made bs i at.scope) (sym h.counted.is) ∙ body.is)).1

    module _ {op : ℕ} (eo : op ≡ (rec_at bs i).opcode) where
      pub lambda_operands : Operands bs ws₁ t e.st (i + 1) 1 op d.at
      lambda_operands = kids_operands h.sound h.there below well lambda_one eo (λ j z. refl)

      module _ {ws₂ : List ℕ} {k : KidsStep} (v : ReadsAll bs ws₁ t e.st (i + 1) 1 op d.at ws₂ k) where
        kept₂ : Kept at ws ws₂ st k.st
        kept₂ = kept_then (omega (arith, body.held)) body.more enters.kept v.kept

        kids_same : kids_read bs i (length body.made.scopes) inner opened
            ≡ kids_read bs i d.at.scope (env_of ws₁ d.at.top) (abs_of bs ws₁ t e.st)
        kids_same = cc (body.scope, body.env, body.abs)

        -- the body is refused
        pub lambda_refused : {x : Refusal} → k.outcome ≡ Err x → Reads bs ws t st i at out ws₂ (step_of k.st (Err x))
        lambda_refused {x} n =
            reads_refused kept₂ v.rep v.opened x
            (func_kids_refused i at.scope r env (kids_read bs i) (abs_of bs ws t st) (own, [], body.made) body.is
            (number_of x.check) x.place
            (kids_same ∙ kids_fail h.sound h.there below well lambda_one eo v n))

        -- the body is read
        module _ (done : IsOk k.outcome) where
          gave : Gave bs ws₁ t e.st i d.at false 1 ws₂ k
          gave = kids_gave h.sound h.there below well lambda_one eo v done

          lambda_conclude : Concludes bs ws₂ k.st i at.scope d.at.scope at.held 1
          lambda_conclude =
              rw body.held at (gave.conclude at.scope (omega (arith, h.stands.scope, enters.kept.scopes)))

          body_word : scope_word ws₂ d.at.scope ≡ scope_word ws₁ d.at.scope
          body_word =
              v.kept.words.scopes (SCOPES.first + d.at.scope) (omega arith) (omega (arith, body.body.low))

          lambda_body : BodyOf ws₂ k.st.scopes at.scope d.at.scope own
          lambda_body = record {
            inside = body.body.inside;
            low = omega (arith, body.body.low, v.kept.scopes);
            parent = ap parent_of body_word ∙ body.body.parent;
            args = ap args_in body_word ∙ body.body.args;
          }

          -- its symbol may be asked for
          pub lambda_asks : Concludes bs ws₂ k.st i at.scope d.at.scope at.held 1
              × ((((rec_at bs i).shape ≡ 12) × (d.first < 4096))
              × BodyOf ws₂ k.st.scopes at.scope d.at.scope own)
          lambda_asks = (lambda_conclude, ((h.shape, omega (arith, body.low)), lambda_body))

          pub lambda_done : {ws₃ : List ℕ} {step : Step} →
              Answers bs ws₂ t k.st
              (finish i at.scope r (pending_from ws₂ at.held 1) own
              (func (with_opts (args_of r.aux r.lit) own) d.at.scope) (abs_of bs ws₂ t k.st)) ws₃ step →
              Reads bs ws t st i at out ws₃ step
          lambda_done =
              reads_answers kept₂ v.rep v.opened
              (rw (← body.held, body.scope) (sym (func_good i at.scope r env (kids_read bs i) (abs_of bs ws t st)
              (own, [], body.made) body.is _ (kids_same ∙ gave.is))))
