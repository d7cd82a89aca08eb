-- `sheet::put_own` meets its contract. Assumes nothing.
use mathlib.Core.Logic.{⊎_elim}
use native.Mathlib.Omega.{arith}
use borrow.Author.Rules.{rules}
use Rattle.shape.proofs.Fitting.{fits_use, fits_def, fits_func, fits_field}
use Rattle.sheet.proofs.Clipping.{clipped_none, clipped_as}
use Rattle.sheet.proofs.Lines.{own_const, own_use, own_def, own_args, own_field, own_none}
use Rattle.sheet.proofs.put_own.Goals as goal

pub put_id-requires : goal.put_id-requires
put_id-requires c =
    ⊎_elim (λ e. omega (arith, fits_use _ c.requires.is e)) (λ e. (fits_def _ c.requires.is e).1) c.in-7.is

pub put_args-requires : goal.put_args-requires
put_args-requires c =
    (fits_func _ c.requires.is c.in-12.is).2

pub put_field-requires : goal.put_field-requires
put_field-requires c =
    omega (arith, (fits_field _ c.requires.is c.in-17.is).1)

pub returns-in-0 : goal.returns-in-0
returns-in-0 c op =
    clipped_as c.put_const.ensures (own_const _ op _ _ c.in-0.is)

pub returns-in-7 : goal.returns-in-7
returns-in-7 c op =
    clipped_as c.put_id.ensures (⊎_elim (own_use _ op _ _) (own_def _ op _ _) c.in-7.is)

pub returns-in-12 : goal.returns-in-12
returns-in-12 c op =
    clipped_as c.put_args.ensures (own_args _ op _ _ c.in-12.is)

pub returns-in-17 : goal.returns-in-17
returns-in-17 c op =
    clipped_as c.put_field.ensures (own_field _ op _ _ c.in-17.is)

pub returns-in_default : goal.returns-in_default
returns-in_default c op =
    clipped_as (clipped_none _)
    (own_none _ op _ _ (λ e. omega arith) (λ e. search rules) (λ e. search rules) (λ e. omega arith) (λ e. omega arith))
