-- Fills that were worked out by hand, computed.
use Rattle.std.proofs.Common.{◌≡◌, ℕ, zero, suc, pos, ◌≤◌, Bool, true, false, List, [], ◌∷◌, map, codes}
use Rattle.std.proofs.Common.{All, Contains, arith, refl, sym, ap, ◌∙◌, subst}
use Rattle.std.specs.Fmt.{digits}
use Rattle.sheet_refs.specs.Cells.{Corners, IsNamed, Position, cells_of}
use Rattle.sheet_refs.specs.Ends.{Anchor, IsReference, Reference, greater, lesser, one_end, two_ends}
use Rattle.sheet_refs.proofs.Grid.{cells_listed, rows_length}
use Rattle.value_core.specs.declared.operators.BinaryOp.TheVariants.{Add, Greater}
use Rattle.formula_syntax.specs.declared.functions.Function.TheVariants.{Countblank, If, Sum}
use Rattle.formula_syntax.specs.declared.functions.Function.{Function}
use Rattle.formula_syntax.specs.Printing.{plain}
use Rattle.formula_syntax.specs.Spelling.{Spells}
use Rattle.formula_syntax.specs.Tree.{HasReferenceAt, IsFitting, Tree, and_trees, binary, call, no_trees, number, reference}
use Rattle.formula_syntax.proofs.Printed.{plain_spells}
use Rattle.sheet_model.specs.Changes.{ChangeValue}
use Rattle.sheet_model.specs.Sheets.{Computed, ContentValue, SheetValue, content_of}
use Rattle.window_text.specs.Changes.{batch_text}
use Rattle.sheet_fill.specs.FillRows.{CrossedRow, DownRow, FillsAs, FixedRow, GrowingRow, ItselfRow, LostRow, LostWithinRow, ManyRow}
use Rattle.sheet_fill.specs.FillRows.{cell_by, end_in_a, corners_by}
use Rattle.sheet_fill.specs.Filling.{copied, filled, others_of}
use Rattle.sheet_fill.proofs.OtherLemmas.{count_inside, count_outside}

-- an end by its parts
abbrev end_at : Bool → ℕ → Bool → ℕ → Anchor
end_at col_fixed col row_fixed row = record { cell = cell_by row col; col_fixed = col_fixed; row_fixed = row_fixed }

-- an end with a name, alone, is a reference
alone_is : (a : Anchor) → IsNamed a.cell.row a.cell.col → IsReference a a true
alone_is a named = record { head_named = named; tail_named = named; ordered = record { rows = omega arith; cols = omega arith }; one_end = λ _. refl }

named_at : (row col : ℕ) → 1 ≤ row → row ≤ 1048576 → 1 ≤ col → col ≤ 16384 → IsNamed row col
named_at row col a b c d = record { row_from = a; row_to = b; col_from = c; col_to = d }

-- the changes by which a content is copied, and their lines
abbrev copies_of : ContentValue → Position → Corners → List ChangeValue
copies_of content from range = map (λ cell. record { cell = cell; content = copied from cell content }) (others_of from range)

as_written : (tree : Tree) (from : Position) (range : Corners) (lines : List ℕ)
    → ((labels : List (List ℕ)) → batch_text labels (copies_of (Computed tree) from range) ≡ lines)
    → (sheet : SheetValue) → content_of sheet from ≡ Computed tree → batch_text sheet.labels (filled sheet from range) ≡ lines
as_written tree from range lines computed sheet is =
    ap (λ (content : ContentValue). batch_text sheet.labels (copies_of content from range)) is ∙ computed sheet.labels

row_of : (formula : List ℕ) (tree : Tree) (from : Position) (range : Corners) (lines : List ℕ) → plain tree ≡ formula → IsFitting tree
    → ((labels : List (List ℕ)) → batch_text labels (copies_of (Computed tree) from range) ≡ lines) → FillsAs formula from range lines
row_of formula tree from range lines spelt fits computed = record {
  tree = tree;
  spelt = subst (λ text. Spells text tree) spelt (plain_spells tree fits);
  written = as_written tree from range lines computed;
}

-- no place of a call has to be a reference, or the first one alone
no_places : (ts : List Tree) → All (HasReferenceAt ts) []
no_places ts k d within = absurd (omega (arith, within))

first_place : (r : Reference) (ts : List Tree) → All (HasReferenceAt (reference r ∷ ts)) (0 ∷ [])
first_place r ts zero d within = (r, refl)
first_place r ts (suc k) d within = absurd (omega (arith, within))

-- a number that digits write
count_is : (n : ℕ) → n ≤ 9007199254740991 → IsFitting (number (pos n))
count_is n small = (n, small, refl)

-- a reference to a cell in column A, with and without `$`
abbrev cell_in_a : Bool → ℕ → Bool → Tree
cell_in_a col_fixed row row_fixed = reference (one_end (end_at col_fixed 1 row_fixed row))

cell_fits : (col_fixed : Bool) (row : ℕ) (row_fixed : Bool) → 1 ≤ row → row ≤ 1048576 → IsFitting (cell_in_a col_fixed row row_fixed)
cell_fits col_fixed row row_fixed from to =
    alone_is (end_at col_fixed 1 row_fixed row) (named_at row 1 from to (omega arith) (omega arith))

-- calls of one parameter, and of more
abbrev call_one : Function → Tree → Tree
call_one f tree = call f (and_trees tree no_trees)

abbrev call_two : Function → Tree → Tree → Tree
call_two f a b = call f (and_trees a (and_trees b no_trees))

abbrev call_three : Function → Tree → Tree → Tree → Tree
call_three f a b c = call f (and_trees a (and_trees b (and_trees c no_trees)))

sum_fits : (tree : Tree) → IsFitting tree → IsFitting (call_one Sum tree)
sum_fits tree fits = (record { least = omega arith; most = tt; references = no_places (tree ∷ []) }, (fits, tt))

sum_two_fits : (a b : Tree) → IsFitting a → IsFitting b → IsFitting (call_two Sum a b)
sum_two_fits a b one two = (record { least = omega arith; most = tt; references = no_places (a ∷ b ∷ []) }, (one, (two, tt)))

-- one more than A1
abbrev next_tree : Tree
next_tree = binary Add (cell_in_a false 1 false) (number (pos 1))

next_fits : IsFitting next_tree
next_fits = (cell_fits false 1 false (omega arith) (omega arith), count_is 1 (omega arith))

next_text : plain next_tree ≡ codes "=A1+1"
unfolding digits
next_text = refl

down_text : (labels : List (List ℕ)) → batch_text labels (copies_of (Computed next_tree) (cell_by 1 2) (corners_by 1 2 2 2))
    ≡ codes "batch\nset B2 =A2+1\nend\n"
unfolding digits
down_text labels = refl

pub down_row : DownRow
down_row = row_of (codes "=A1+1") next_tree (cell_by 1 2) (corners_by 1 2 2 2) (codes "batch\nset B2 =A2+1\nend\n") next_text next_fits down_text

lost_text : (labels : List (List ℕ)) → batch_text labels (copies_of (Computed next_tree) (cell_by 2 1) (corners_by 1 1 2 1))
    ≡ codes "batch\nset A1 =#REF!+1\nend\n"
unfolding digits
lost_text labels = refl

pub lost_row : LostRow
lost_row = row_of (codes "=A1+1") next_tree (cell_by 2 1) (corners_by 1 1 2 1) (codes "batch\nset A1 =#REF!+1\nend\n") next_text next_fits lost_text

-- a sum that grows
abbrev growing_tree : Tree
growing_tree = call_one Sum (reference (two_ends (end_in_a true 1) (end_in_a false 1)))

pair_fits : (a b : Anchor) → IsNamed a.cell.row a.cell.col → IsNamed b.cell.row b.cell.col → a.cell.row ≤ b.cell.row → a.cell.col ≤ b.cell.col
    → lesser a b ≡ a → greater a b ≡ b → IsFitting (reference (two_ends a b))
pair_fits a b one two rows cols lower upper =
    let head : IsNamed (lesser a b).cell.row (lesser a b).cell.col = subst (λ (e : Anchor). IsNamed e.cell.row e.cell.col) (sym lower) one in
    let tail : IsNamed (greater a b).cell.row (greater a b).cell.col = subst (λ (e : Anchor). IsNamed e.cell.row e.cell.col) (sym upper) two in
    record { head_named = head; tail_named = tail; ordered = record { rows = omega arith; cols = omega arith }; one_end = λ single. absurd (cc single) }

a1_named : IsNamed 1 1
a1_named = named_at 1 1 (omega arith) (omega arith) (omega arith) (omega arith)

growing_fits : IsFitting growing_tree
growing_fits = sum_fits (reference (two_ends (end_in_a true 1) (end_in_a false 1)))
    (pair_fits (end_in_a true 1) (end_in_a false 1) a1_named a1_named (omega arith) (omega arith) refl refl)

growing_name : plain growing_tree ≡ codes "=SUM($A$1:A1)"
unfolding digits
growing_name = refl

growing_text : (labels : List (List ℕ)) → batch_text labels (copies_of (Computed growing_tree) (cell_by 1 2) (corners_by 1 2 3 2))
    ≡ codes "batch\nset B2 =SUM($A$1:A2)\nset B3 =SUM($A$1:A3)\nend\n"
unfolding digits
growing_text labels = refl

pub growing_row : GrowingRow
growing_row = row_of (codes "=SUM($A$1:A1)") growing_tree (cell_by 1 2) (corners_by 1 2 3 2)
    (codes "batch\nset B2 =SUM($A$1:A2)\nset B3 =SUM($A$1:A3)\nend\n") growing_name growing_fits growing_text

-- each part fixed or not
abbrev fixed_tree : Tree
fixed_tree = binary Add (binary Add (binary Add (cell_in_a false 1 false) (cell_in_a true 1 false)) (cell_in_a false 1 true)) (cell_in_a true 1 true)

fixed_fits : IsFitting fixed_tree
fixed_fits = (
  (
    (cell_fits false 1 false (omega arith) (omega arith), cell_fits true 1 false (omega arith) (omega arith)),
    cell_fits false 1 true (omega arith) (omega arith),
  ),
  cell_fits true 1 true (omega arith) (omega arith),
)

fixed_name : plain fixed_tree ≡ codes "=A1+$A1+A$1+$A$1"
unfolding digits
fixed_name = refl

fixed_text : (labels : List (List ℕ)) → batch_text labels (copies_of (Computed fixed_tree) (cell_by 2 2) (corners_by 2 2 3 3))
    ≡ codes "batch\nset C2 =B1+$A1+B$1+$A$1\nset B3 =A2+$A2+A$1+$A$1\nset C3 =B2+$A2+B$1+$A$1\nend\n"
unfolding digits
fixed_text labels = refl

pub fixed_row : FixedRow
fixed_row = row_of (codes "=A1+$A1+A$1+$A$1") fixed_tree (cell_by 2 2) (corners_by 2 2 3 3)
    (codes "batch\nset C2 =B1+$A1+B$1+$A$1\nset B3 =A2+$A2+A$1+$A$1\nset C3 =B2+$A2+B$1+$A$1\nend\n") fixed_name fixed_fits fixed_text

-- ends that cross
abbrev crossed_tree : Tree
crossed_tree = call_one Sum (reference (two_ends (end_at false 3 false 3) (end_at true 3 true 3)))

c3_named : IsNamed 3 3
c3_named = named_at 3 3 (omega arith) (omega arith) (omega arith) (omega arith)

crossed_fits : IsFitting crossed_tree
crossed_fits = sum_fits (reference (two_ends (end_at false 3 false 3) (end_at true 3 true 3)))
    (pair_fits (end_at false 3 false 3) (end_at true 3 true 3) c3_named c3_named (omega arith) (omega arith) refl refl)

crossed_name : plain crossed_tree ≡ codes "=SUM(C3:$C$3)"
unfolding digits
crossed_name = refl

crossed_text : (labels : List (List ℕ)) → batch_text labels (copies_of (Computed crossed_tree) (cell_by 1 1) (corners_by 1 1 2 2))
    ≡ codes "batch\nset B1 =SUM($C3:D$3)\nset A2 =SUM(C$3:$C4)\nset B2 =SUM($C$3:D4)\nend\n"
unfolding digits
crossed_text labels = refl

pub crossed_row : CrossedRow
crossed_row = row_of (codes "=SUM(C3:$C$3)") crossed_tree (cell_by 1 1) (corners_by 1 1 2 2)
    (codes "batch\nset B1 =SUM($C3:D$3)\nset A2 =SUM(C$3:$C4)\nset B2 =SUM($C$3:D4)\nend\n") crossed_name crossed_fits crossed_text

-- references that are lost within calls of calls
abbrev blanks_tree : Tree
blanks_tree = binary Greater (call_one Countblank (cell_in_a false 1 false)) (number (pos 0))

abbrev both_tree : Tree
both_tree = call_two Sum (cell_in_a false 1 false) (cell_in_a false 2 false)

abbrev within_tree : Tree
within_tree = call_three If blanks_tree both_tree (cell_in_a false 1 false)

a1_fits : IsFitting (cell_in_a false 1 false)
a1_fits = cell_fits false 1 false (omega arith) (omega arith)

blanks_fits : IsFitting blanks_tree
blanks_fits = (
  (record { least = omega arith; most = omega arith; references = first_place (one_end (end_at false 1 false 1)) [] }, (a1_fits, tt)),
  count_is 0 (omega arith),
)

within_fits : IsFitting within_tree
within_fits = (
  record { least = omega arith; most = omega arith; references = no_places (blanks_tree ∷ both_tree ∷ cell_in_a false 1 false ∷ []) },
  (
    blanks_fits,
    (sum_two_fits (cell_in_a false 1 false) (cell_in_a false 2 false) a1_fits (cell_fits false 2 false (omega arith) (omega arith)), (a1_fits, tt)),
  ),
)

within_name : plain within_tree ≡ codes "=IF(COUNTBLANK(A1)>0;SUM(A1;A2);A1)"
unfolding digits
within_name = refl

within_text : (labels : List (List ℕ)) → batch_text labels (copies_of (Computed within_tree) (cell_by 2 2) (corners_by 1 2 2 2))
    ≡ codes "batch\nset B1 =IF(#REF!>0;SUM(#REF!;A1);#REF!)\nend\n"
unfolding digits
within_text labels = refl

pub lost_within_row : LostWithinRow
lost_within_row = row_of (codes "=IF(COUNTBLANK(A1)>0;SUM(A1;A2);A1)") within_tree (cell_by 2 2) (corners_by 1 2 2 2)
    (codes "batch\nset B1 =IF(#REF!>0;SUM(#REF!;A1);#REF!)\nend\n") within_name within_fits within_text

-- a cell over itself
pub itself_row : ItselfRow
itself_row = (refl, refl)

-- one cell more than an edit may change
pub many_row : ManyRow
many_row = (
  record {
    counted = count_inside (cell_by 1 1) (corners_by 1 1 1026 1) 1026 first_in (sym (rows_length (corners_by 1 1 1026 1) 1 1026));
    many = omega arith;
  },
  record {
    counted = count_outside (cell_by 1 1) (corners_by 2 1 1026 1) 1025 first_out (sym (rows_length (corners_by 2 1 1026 1) 2 1025));
    many = omega arith;
  },
)
  where
    first_in : Contains (cells_of (corners_by 1 1 1026 1)) (cell_by 1 1)
    first_in = (cells_listed (corners_by 1 1 1026 1) (record { rows = omega arith; cols = omega arith }) (cell_by 1 1)).1
        (record { row_from = omega arith; row_to = omega arith; col_from = omega arith; col_to = omega arith })

    first_out : ¬ Contains (cells_of (corners_by 2 1 1026 1)) (cell_by 1 1)
    first_out there =
        let is = (cells_listed (corners_by 2 1 1026 1) (record { rows = omega arith; cols = omega arith }) (cell_by 1 1)).0 there in
        let row = is.row_from in
        omega (arith, row)
