-- A symbol in five words of the work memory. In order: an operation's thunks; a node's parts; the words; storing;
-- loading; which symbols fit.
-- Assumes nothing.
use Rattle.std.specs.Prelude.{ℕ, zero, suc, ◌+◌, ◌*◌, ◌/◌, ◌%◌, ◌<◌, List, [], ◌∷◌, Bool, true, false, eqb, get_or, set}
use Rattle.std.specs.Prelude.{Option, None, Some, IfSome}
use Rattle.std.specs.Option.{unwrap_or}
use Rattle.key.specs.declared.Leaf.{Leaf}
use Rattle.key.specs.declared.Parts.{Parts}
use Rattle.key.specs.declared.Branches.{Branches}
use Rattle.key.specs.declared.Branches.TheVariants.{Zero, One, Two}
use Rattle.key.specs.declared.Symbol.{Symbol}
use Rattle.key.specs.declared.Operation.{Operation}
use Rattle.key.specs.declared.Node.{Node}
use Rattle.key.specs.declared.Node.TheVariants.{Const, Unparsed, Arg, Lambda, Op}

-- ---- an operation's thunks

-- the scopes of a record's thunks, in order
abbrev pub branches_of : Branches → List ℕ
branches_of Zero = []
branches_of (One a) = a ∷ []
branches_of (Two a b) = a ∷ b ∷ []

-- ---- a node's parts

abbrev pub leaf_parts : ℕ → Leaf → Parts
leaf_parts tag l = record { tag = tag; source = l.source; field = 0; branches = 0; first = 0; second = 0 }

-- how many thunks, and the scopes of the first two: 0 where there is none
abbrev pub how_many : Branches → ℕ
how_many Zero = 0
how_many (One a) = 1
how_many (Two a b) = 2

abbrev pub first_of : Branches → ℕ
first_of Zero = 0
first_of (One a) = a
first_of (Two a b) = a

abbrev pub second_of : Branches → ℕ
second_of Zero = 0
second_of (One a) = 0
second_of (Two a b) = b

abbrev pub op_parts : Operation → Parts
op_parts o = record {
  tag = 4;
  source = o.source;
  field = unwrap_or o.field 0;
  branches = how_many o.branches;
  first = first_of o.branches;
  second = second_of o.branches;
}

abbrev pub parts_of : Node → Parts
parts_of (Const l) = leaf_parts 0 l
parts_of (Unparsed l) = leaf_parts 1 l
parts_of (Arg l) = leaf_parts 2 l
parts_of (Lambda f) =
    record { tag = 3; source = f.source; field = 0; branches = 0; first = f.first; second = f.body }
parts_of (Op o) = op_parts o

abbrev pub choose : Bool → Node → Node → Node
choose true a b = a
choose false a b = b

-- the field that a number stands for, 0 for none
abbrev pub field_in : ℕ → Option ℕ
field_in zero = None
field_in (suc n) = Some (suc n)

-- the thunks that a number of them and two scopes stand for
abbrev pub branches_in : ℕ → ℕ → ℕ → Branches
branches_in zero a b = Zero
branches_in (suc zero) a b = One a
branches_in (suc (suc n)) a b = Two a b

-- the node of these parts
abbrev pub node_from : Parts → Node
node_from p =
    choose (eqb p.tag 0) (Const (record { source = p.source }))
    (choose (eqb p.tag 1) (Unparsed (record { source = p.source }))
    (choose (eqb p.tag 2) (Arg (record { source = p.source }))
    (choose (eqb p.tag 3) (Lambda (record { source = p.source; first = p.first; body = p.second }))
    (Op (record {
      source = p.source;
      field = field_in p.field;
      branches = branches_in p.branches p.first p.second;
    })))))

-- ---- the words

-- tag, record, field, count
abbrev pub head : Parts → ℕ → ℕ
head p count = p.tag + 8 * p.source + 2048 * p.field + 8192 * count

-- first child slot, second scope, number of thunks
abbrev pub middle : Parts → ℕ → ℕ
middle p kids = kids + 4096 * p.second + 16777216 * p.branches

-- scope, first scope or argument
abbrev pub tail : Parts → ℕ → ℕ
tail p scope = scope + 4096 * p.first

-- ---- storing

-- five words from `at` on
abbrev pub put5 : List ℕ → ℕ → ℕ → ℕ → ℕ → ℕ → ℕ → List ℕ
put5 ws at a b c d e = set (set (set (set (set ws at a) (at + 1) b) (at + 2) c) (at + 3) d) (at + 4) e

unfoldable pub store_symbol : List ℕ → ℕ → Symbol → List ℕ
store_symbol ws s y =
    let p = parts_of y.node in
    put5 ws (5 * s) (head p y.count) (middle p y.kids) (tail p y.scope)
    (y.levels % 4294967296) (y.levels / 4294967296)

-- ---- loading

-- the parts in the first three words
abbrev pub parts_in : ℕ → ℕ → ℕ → Parts
parts_in a b c = record {
  tag = a % 8;
  source = a / 8 % 256;
  field = a / 2048 % 4;
  branches = b / 16777216;
  first = c / 4096;
  second = b / 4096 % 4096;
}

-- the symbol of five words
abbrev pub symbol_of : ℕ → ℕ → ℕ → ℕ → ℕ → Symbol
symbol_of a b c d e = record {
  node = node_from (parts_in a b c);
  kids = b % 4096;
  count = a / 8192;
  scope = c % 4096;
  levels = d + 4294967296 * e;
}

-- symbol s
unfoldable pub symbol_at : List ℕ → ℕ → Symbol
symbol_at ws s =
    symbol_of (get_or ws (5 * s) 0) (get_or ws (5 * s + 1) 0) (get_or ws (5 * s + 2) 0) (get_or ws (5 * s + 3) 0)
    (get_or ws (5 * s + 4) 0)

-- ---- which symbols fit their words

abbrev pub node_field : Node → Option ℕ
node_field (Const l) = None
node_field (Unparsed l) = None
node_field (Arg l) = None
node_field (Lambda f) = None
node_field (Op o) = o.field

-- a field is a number of two bits, and not 0, which stands for none
abbrev pub FieldFits : Option ℕ → Type 0
FieldFits field = IfSome field (λ f. (0 < f) × (f < 4))

pub record FitsWords (y : Symbol) : Type 0 where
  pub from : (parts_of y.node).source < 256
  pub field : FieldFits (node_field y.node)
  pub first : (parts_of y.node).first < 4096
  pub second : (parts_of y.node).second < 4096
  pub kids : y.kids < 4096
  pub count : y.count < 512
  pub scope : y.scope < 4096
