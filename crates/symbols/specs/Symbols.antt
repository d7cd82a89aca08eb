-- The symbols that work words hold, as model has them; bs are the forest's bytes, ws the words. In order: a symbol's
-- record and node; the symbols; one more; what holds of the words of symbols.
-- Assumes nothing.
use Rattle.std.specs.Prelude.{ℕ, zero, suc, ◌+◌, ◌<◌, ◌≤◌, true, false, List, [], ◌∷◌, ◌++◌, eqb, length, get_or}
use Rattle.std.proofs.lemmas.List.Edits.{sets}
use Rattle.model.specs.Lists.{without}
use Rattle.model.specs.Tree.{Rec, rec}
use Rattle.model.specs.Binding.{args_of}
use Rattle.model.specs.Forest.{record_count}
use Rattle.model.specs.Intern.{Sym, union_deps, with_opts, constant, unparsed, argument, func, operation}
use Rattle.model.specs.Intern as intern
use Rattle.record.specs.Record.{row_at}
use Rattle.key.specs.declared.Symbol.{Symbol}
use Rattle.key.specs.declared.Node.{Node}
use Rattle.key.specs.declared.Node.TheVariants.{Const, Unparsed, Arg, Lambda, Op}
use Rattle.key.specs.Key.{FitsWords, branches_of, parts_of, symbol_at, store_symbol}
use Rattle.symbols.specs.Words.{slots_from, pending_from}
use Rattle.laws.specs.Range.{range}
use Rattle.regions.specs.Regions.{WORDS, SLOTS}

-- ---- a symbol's record and node

-- record i, or a projection to a field that it makes
unfoldable pub key_rec : List ℕ → ℕ → ℕ → Rec
key_rec bs i field =
    let r = (row_at bs i).rec in elim (eqb field 0) [ true ↦ r | false ↦ rec r.shape r.opcode 0 (field ∷ []) ]

abbrev pub rec_of : List ℕ → Node → Rec
rec_of bs n = key_rec bs (parts_of n).source (parts_of n).field

-- the argument symbols that a node binds
abbrev pub own_of : List ℕ → Node → List ℕ
own_of bs (Const l) = []
own_of bs (Unparsed l) = []
own_of bs (Arg l) = []
own_of bs (Lambda f) = range f.first (row_at bs f.source).rec.aux
own_of bs (Op o) = []

abbrev pub model_node : List ℕ → Node → intern.Node
model_node bs (Const l) = constant
model_node bs (Unparsed l) = unparsed
model_node bs (Arg l) = argument
model_node bs (Lambda f) =
    let r = (row_at bs f.source).rec in
    func (with_opts (args_of r.aux r.lit) (range f.first r.aux)) f.body
model_node bs (Op o) = operation (branches_of o.branches)

-- what symbol s depends on, from the lower symbols: an argument on itself, any other on what its children ks do
abbrev pub deps_of : List ℕ → List Sym → ℕ → Node → List ℕ → List ℕ
deps_of bs lower s (Const l) ks = without (union_deps lower ks) []
deps_of bs lower s (Unparsed l) ks = without (union_deps lower ks) []
deps_of bs lower s (Arg l) ks = s ∷ []
deps_of bs lower s (Lambda f) ks = without (union_deps lower ks) (own_of bs (Lambda f))
deps_of bs lower s (Op o) ks = without (union_deps lower ks) []

-- ---- the symbols

-- y as symbol s, over children ks
unfoldable pub sym_of : List ℕ → List Sym → ℕ → Symbol → List ℕ → Sym
sym_of bs lower s y ks = record {
  rec = rec_of bs y.node;
  kids = ks;
  deps = deps_of bs lower s y.node ks;
  scope = y.scope;
  node = model_node bs y.node;
}

abbrev pub kids_at : List ℕ → ℕ → List ℕ
kids_at ws s = slots_from ws (symbol_at ws s).kids (symbol_at ws s).count

abbrev pub sym_from : List ℕ → List Sym → List ℕ → ℕ → Sym
sym_from bs lower ws s = sym_of bs lower s (symbol_at ws s) (kids_at ws s)

-- the first n symbols
unfoldable pub syms_of : List ℕ → List ℕ → ℕ → List Sym
syms_of bs ws zero = []
syms_of bs ws (suc n) = let l = syms_of bs ws n in l ++ (sym_from bs l ws n ∷ [])

-- ---- one more

-- y as symbol n, its children those pending from `held` on
unfoldable pub made : List ℕ → ℕ → ℕ → Symbol → List ℕ
made ws n held y = store_symbol (sets ws (SLOTS.first + y.kids) (pending_from ws held y.count)) n y

-- there is room for it: a symbol's five words, its slots, and its pending children
pub record RoomFor (ws : List ℕ) (n held : ℕ) (y : Symbol) : Type 0 where
  pub few : n < 512
  pub slots : y.kids + y.count ≤ SLOTS.size
  pub pending : held + y.count ≤ 256
  pub words : WORDS ≤ length ws
  pub fits : FitsWords y

-- ---- what holds of the words of symbols

-- symbol i was made for a record of the forest, its slots end at `used` or before, and its children are lower symbols
pub record Sound (bs ws : List ℕ) (used i : ℕ) : Type 0 where
  pub from : (parts_of (symbol_at ws i).node).source < record_count bs
  pub slots : (symbol_at ws i).kids + (symbol_at ws i).count ≤ used
  pub lower : (k : ℕ) → k < (symbol_at ws i).count → get_or ws (SLOTS.first + (symbol_at ws i).kids + k) 0 < i

abbrev pub AllSound : List ℕ → List ℕ → ℕ → ℕ → Type 0
AllSound bs ws used n = (i : ℕ) → i < n → Sound bs ws used i
