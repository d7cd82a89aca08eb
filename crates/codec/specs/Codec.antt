-- What checks of a forest answer.
-- In order: one pair of the directory; answers; what checks 2 to 6 leave, and say; all checks.
-- Assumes nothing.
use Rattle.std.specs.Prelude.{ℕ, ◌+◌, ◌≤◌, ◌≡◌, Bool, not, ◌&&◌, ◌||◌, List, eqb, ltb, None, Result, Ok, Err, IsOk}
use Rattle.model.specs.Answer.{Answer, refused, good}
use Rattle.model.specs.Tree.{Trees}
use Rattle.model.specs.Forest.{record_count, trees_of, check5}
use Rattle.model.specs.Accept.{accept}
use Rattle.laws.specs.Frame.{Frame}
use Rattle.walk.specs.Walk.{WellFormed, Ends}
use Rattle.walk.specs.declared.Formed.{Formed}
use Rattle.regions.specs.Regions.{IDS, end}
use Rattle.refusal.specs.declared.Refusal.{Refusal}
use Rattle.refusal.specs.Refusal.{number_of}

-- a pair of offset `at` and length `size`, after one that ends at `from`, in a forest of `total` bytes
abbrev pub bad_pair : ℕ → ℕ → ℕ → ℕ → Bool → Bool
bad_pair total from at size last = not (eqb at from) || ltb size 5 || (last && not (eqb (at + size) total))

-- what the checks say, as the model's answer
abbrev pub answer_of : {A : Type 0} → Result A Refusal → Trees → Answer Trees
answer_of (Ok u) ts = good ts
answer_of (Err r) ts = refused (number_of r.check) r.place

-- a forest that passes checks 2 to 6
pub record Shaped (bs : List ℕ) : Type 0 where
  pub sound : WellFormed bs
  pub agree : check5 bs ≡ None

-- checks 2 to 6 pass, of the forest that is given, or one of them is the answer
abbrev pub Layout : List ℕ → Result Formed Refusal → Type 0
Layout bs (Ok f) = (f.laid ≡ bs) × (check5 bs ≡ None)
Layout bs (Err r) = refused (number_of r.check) r.place ≡ accept bs

-- a refusal by one of checks 2 to 6, which look at the forest alone
abbrev pub Early : {A : Type 0} → Result A Refusal → Type 0
Early (Ok u) = ⊥
Early (Err r) = number_of r.check ≤ 6

-- the answer of all checks, where 2 to 6 pass: no word changed but those of IDS, and no entry but those of the forest's
-- records, which say where their subtrees end
pub record Answered (bs ws ws' es es' : List ℕ) (r : Result Unit Refusal) : Type 0 where
  pub is : answer_of r (trees_of bs) ≡ accept bs
  pub late : Early r → ⊥
  pub kept : Frame IDS.first (end IDS) ws ws'
  pub ends : IsOk r → Ends bs 0 (record_count bs) es'
  pub entries : Frame 0 (record_count bs) es es'

-- the answer of all checks: no word changed but those of IDS, and none where 2 to 6 refuse
pub record Judged {A : Type 0} (bs ws ws' : List ℕ) (r : Result A Refusal) : Type 0 where
  pub is : answer_of r (trees_of bs) ≡ accept bs
  pub early : Early r → ws' ≡ ws
  pub kept : Frame IDS.first (end IDS) ws ws'
