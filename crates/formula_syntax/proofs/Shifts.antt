-- What a shift keeps of a formula.
use Rattle.std.proofs.Common.{◌≡◌, ℕ, ℤ, suc, ◌+◌, ◌≤◌, pos, Bool, true, false, length, refl, sym, ap, ◌∙◌, subst, arith}
use Rattle.std.specs.Prelude.{◌+ℤ◌, ◌≢◌, ◌↔◌, int_le, nat_abs, nat_le, min, max, Option, Some, None, option_map, option_and_then, if◌then◌else◌}
use Rattle.std.proofs.lemmas.Bool.Decides.{nat_tests}
use Rattle.std.proofs.lemmas.Int.{ints}
use Rattle.std.proofs.lemmas.List.{length-append}
use Rattle.std.proofs.lemmas.Option.{none-some, same_Some}
use Rattle.sheet_refs.specs.Cells.{Corners, IsNamed, IsOrdered}
use Rattle.sheet_refs.specs.Ends.{Anchor, Reference, IsReference, one_end, two_ends, lesser, greater, corners_of}
use Rattle.value_core.specs.declared.value.ErrorKind.TheVariants as kind
use Rattle.formula_syntax.specs.declared.functions.Function.{Function}
use Rattle.formula_syntax.specs.Formula.{IsFormula}
use Rattle.formula_syntax.specs.Functions.{shape_of}
use Rattle.formula_syntax.specs.Reading.{references_at}
use Rattle.formula_syntax.specs.Shifting.{if_named, shifted_part, at_cell, shifted_end, shifted_ends, shifted_reference}
use Rattle.formula_syntax.specs.Shifting.{or_lost, call_or_lost, shifted, all_shifted, IsMovedPart, IsMovedEnd}
use Rattle.formula_syntax.specs.Tree.{Tree, Trees, number, truth, error, reference, prefix, binary, call, no_trees}
use Rattle.formula_syntax.specs.Tree.{and_trees, tree_list, node_count, all_nodes, references_of, all_references, Fits}
use Rattle.formula_syntax.specs.Tree.{IsFitting, AreFitting}
use Rattle.formula_syntax.proofs.Fitting.{all_sound, all_complete}

-- a row or a column that a whole number is
pub named_number : (last n : ℕ) (z : ℤ) → if_named last z ≡ Some n → (pos n ≡ z) × (1 ≤ n) × (n ≤ last)
named_number last n z e = by_tests (int_le (pos 1) z) refl (int_le z (pos last)) refl
  where
    by_tests : (p : Bool) → int_le (pos 1) z ≡ p → (q : Bool) → int_le z (pos last) ≡ q → (pos n ≡ z) × (1 ≤ n) × (n ≤ last)
    by_tests true f true g =
        let same : nat_abs z ≡ n = same_Some (nat_abs z) n (rw (f, g) at e) in
        (grind (arith, ints, nat_tests), grind (arith, ints, nat_tests), grind (arith, ints, nat_tests))
    by_tests true f false g = absurd (none-some n (rw (f, g) at e))
    by_tests false f q g = absurd (none-some n (rw f at e))

pub number_named : (last n : ℕ) (z : ℤ) → pos n ≡ z → 1 ≤ n → n ≤ last → if_named last z ≡ Some n
number_named last n z is from to =
    let first : int_le (pos 1) z ≡ true = grind (arith, ints, nat_tests) in
    let second : int_le z (pos last) ≡ true = grind (arith, ints, nat_tests) in
    let abs : nat_abs z ≡ n = grind (arith, ints) in
    rw (first, second) (ap Some abs)

-- a part that is shifted, and one that isn't fixed
pub part_moved : (fixed : Bool) (last : ℕ) (by : ℤ) (part new : ℕ) → 1 ≤ part → part ≤ last
    → shifted_part fixed last by part ≡ Some new → IsMovedPart fixed by part new × (1 ≤ new) × (new ≤ last)
part_moved true last by part new from to e = let same : part ≡ new = same_Some part new e in (sym same, omega (arith, same, from), omega (arith, same, to))
part_moved false last by part new from to e = named_number last new (pos part +ℤ by) e

pub moved_part : (fixed : Bool) (last : ℕ) (by : ℤ) (part new : ℕ) → 1 ≤ new → new ≤ last
    → IsMovedPart fixed by part new → shifted_part fixed last by part ≡ Some new
moved_part true last by part new from to e = ap Some (sym e)
moved_part false last by part new from to e = number_named last new (pos part +ℤ by) e from to

-- what an end becomes, by what its parts become
ends_by : (a : Anchor) (row col : Option ℕ) (b : Anchor)
    → option_and_then (λ r. option_map (at_cell a r) col) row ≡ Some b → (r : ℕ) × (c : ℕ) × (row ≡ Some r)
    × (col ≡ Some c) × (at_cell a r c ≡ b)
ends_by a None col b e = absurd (none-some b e)
ends_by a (Some r) None b e = absurd (none-some b e)
ends_by a (Some r) (Some c) b e = (r, c, refl, refl, same_Some _ _ e)

-- an end goes where it should
abbrev end_at : ℕ → ℕ → Bool → Bool → Anchor
end_at row col col_fixed row_fixed = record { cell = record { row = row; col = col }; col_fixed = col_fixed; row_fixed = row_fixed }

same_end : {r s c d : ℕ} {p q v w : Bool} → r ≡ s → c ≡ d → p ≡ q → v ≡ w → end_at r c p v ≡ end_at s d q w
same_end row col first second = cc

pub end_moved : (down right : ℤ) (a b : Anchor) → IsNamed a.cell.row a.cell.col → shifted_end down right a ≡ Some b → IsMovedEnd down right a b
end_moved down right a b named e =
    let (r, c, row, col, is) = ends_by a (shifted_part a.row_fixed 1048576 down a.cell.row) (shifted_part a.col_fixed 16384 right a.cell.col) b e in
    let (moved_row, row_from, row_to) = part_moved a.row_fixed 1048576 down a.cell.row r named.row_from named.row_to row in
    let (moved_col, col_from, col_to) = part_moved a.col_fixed 16384 right a.cell.col c named.col_from named.col_to col in
    subst (λ (x : Anchor). IsMovedEnd down right a x) is
    (record {
      row = moved_row;
      col = moved_col;
      row_fixed = refl;
      col_fixed = refl;
      named = record { row_from = row_from; row_to = row_to; col_from = col_from; col_to = col_to };
    })

pub moved_end : (down right : ℤ) (a b : Anchor) → IsMovedEnd down right a b → shifted_end down right a ≡ Some b
moved_end down right a b h =
    let row = moved_part a.row_fixed 1048576 down a.cell.row b.cell.row h.named.row_from h.named.row_to h.row in
    let col = moved_part a.col_fixed 16384 right a.cell.col b.cell.col h.named.col_from h.named.col_to h.col in
    rw (row, col) (ap Some (same_end refl refl (sym h.col_fixed) (sym h.row_fixed)))

pub ends_move : (down right : ℤ) (a b : Anchor) → IsNamed a.cell.row a.cell.col → shifted_end down right a ≡ Some b ↔ IsMovedEnd down right a b
ends_move down right a b named = (end_moved down right a b named, moved_end down right a b)

-- what is in an option that a function gave
map_some : {A B : Type 0} (f : A → B) (o : Option A) (y : B) → option_map f o ≡ Some y → (x : A) × (o ≡ Some x) × (f x ≡ y)
map_some f None y e = absurd (none-some y e)
map_some f (Some x) y e = (x, refl, same_Some (f x) y e)

then_some : {A B : Type 0} (f : A → Option B) (o : Option A) (y : B) → option_and_then f o ≡ Some y → (x : A) × (o ≡ Some x) × (f x ≡ Some y)
then_some f None y e = absurd (none-some y e)
then_some f (Some x) y e = (x, refl, e)

-- the ends of a shifted reference
one_shifted : (down right : ℤ) (head tail : Anchor) (s : Reference) → shifted_ends down right true head tail ≡ Some s
    → (a : Anchor) × (shifted_end down right head ≡ Some a) × (one_end a ≡ s)
one_shifted down right head tail s e = map_some one_end (shifted_end down right head) s e

two_shifted : (down right : ℤ) (head tail : Anchor) (s : Reference) → shifted_ends down right false head tail ≡ Some s
    → (a b : Anchor) × (shifted_end down right head ≡ Some a) × (shifted_end down right tail ≡ Some b)
    × (two_ends a b ≡ s)
two_shifted down right head tail s e =
    let (a, first, more) = then_some (λ first. option_map (two_ends first) (shifted_end down right tail)) (shifted_end down right head) s e in
    let (b, second, is) = map_some (two_ends a) (shifted_end down right tail) s more in
    (a, b, first, second, is)

-- a shifted reference has ends in order within the names
two_kept : (a b : Anchor) → IsNamed a.cell.row a.cell.col → IsNamed b.cell.row b.cell.col → IsReference (lesser a b) (greater a b) false
two_kept a b one two = record {
  head_named = record {
    row_from = omega (arith, one.row_from, two.row_from);
    row_to = omega (arith, one.row_to, two.row_to);
    col_from = omega (arith, one.col_from, two.col_from);
    col_to = omega (arith, one.col_to, two.col_to);
  };
  tail_named = record {
    row_from = omega (arith, one.row_from, two.row_from);
    row_to = omega (arith, one.row_to, two.row_to);
    col_from = omega (arith, one.col_from, two.col_from);
    col_to = omega (arith, one.col_to, two.col_to);
  };
  ordered = record { rows = omega arith; cols = omega arith };
  one_end = λ e. absurd (cc e);
}

ends_kept : (down right : ℤ) (single : Bool) (head tail : Anchor) (s : Reference) → IsNamed head.cell.row head.cell.col
    → IsNamed tail.cell.row tail.cell.col → shifted_ends down right single head tail ≡ Some s
    → IsReference s.head s.tail s.single
ends_kept down right true head tail s first second e =
    let (a, shifted, is) = one_shifted down right head tail s e in
    let named = (end_moved down right head a first shifted).named in
    subst (λ (x : Reference). IsReference x.head x.tail x.single) is
    (record { head_named = named; tail_named = named; ordered = record { rows = omega arith; cols = omega arith }; one_end = λ _. refl })
ends_kept down right false head tail s first second e =
    let (a, b, one, two, is) = two_shifted down right head tail s e in
    subst (λ (x : Reference). IsReference x.head x.tail x.single) is
    (two_kept a b (end_moved down right head a first one).named (end_moved down right tail b second two).named)

ref_plain : kind.Ref ≢ kind.Circ
ref_plain e = cc e

lost_fits : (down right : ℤ) (r : Reference) → IsReference r.head r.tail r.single → IsFitting (or_lost (shifted_reference down right r))
lost_fits down right r is = by_option (shifted_reference down right r) refl
  where
    by_option : (o : Option Reference) → shifted_reference down right r ≡ o → IsFitting (or_lost o)
    by_option None e = ref_plain
    by_option (Some s) e = ends_kept down right r.single r.head r.tail s is.head_named is.tail_named e

-- parameters are as many as before
same_many : (down right : ℤ) (ps : Trees) → length (tree_list (all_shifted down right ps)) ≡ length (tree_list ps)
same_many down right no_trees = refl
same_many down right (and_trees t rest) = ap suc (same_many down right rest)

call_fits : (f : Function) (ps new : Trees) → length (tree_list new) ≡ length (tree_list ps)
    → Fits (shape_of f) (tree_list ps) → AreFitting new → IsFitting (call_or_lost f new)
call_fits f ps new many fits all = by_test (references_at (shape_of f).references (tree_list new)) refl
  where
    by_test : (b : Bool) → references_at (shape_of f).references (tree_list new) ≡ b → IsFitting (call_or_lost f new)
    by_test true e =
        rw e (
          record {
            least = rw many fits.least;
            most = rw many fits.most;
            references = all_sound (shape_of f).references (tree_list new) e;
          },
          all,
        )
    by_test false e = rw e ref_plain

mutual
  pub stays_fitting : (down right : ℤ) (t : Tree) → IsFitting t → IsFitting (shifted down right t)
  stays_fitting down right (number n) h = h
  stays_fitting down right (truth b) h = tt
  stays_fitting down right (error k) h = h
  stays_fitting down right (reference r) h = lost_fits down right r h
  stays_fitting down right (prefix op t) h = stays_fitting down right t h
  stays_fitting down right (binary op l r) h = (stays_fitting down right l h.0, stays_fitting down right r h.1)
  stays_fitting down right (call f ps) h = call_fits f ps (all_shifted down right ps) (same_many down right ps) h.0 (stay_fitting down right ps h.1)

  stay_fitting : (down right : ℤ) (ps : Trees) → AreFitting ps → AreFitting (all_shifted down right ps)
  stay_fitting down right no_trees h = tt
  stay_fitting down right (and_trees t rest) h = (stays_fitting down right t h.0, stay_fitting down right rest h.1)

-- no nodes and no references more
lost_count : (o : Option Reference) → node_count (or_lost o) ≡ 1
lost_count None = refl
lost_count (Some r) = refl

call_count : (f : Function) (ps : Trees) → node_count (call_or_lost f ps) ≤ 1 + all_nodes ps
call_count f ps = by_test (references_at (shape_of f).references (tree_list ps)) refl
  where
    by_test : (b : Bool) → references_at (shape_of f).references (tree_list ps) ≡ b → node_count (call_or_lost f ps) ≤ 1 + all_nodes ps
    by_test true e = rw e (omega arith)
    by_test false e = rw e (omega arith)

mutual
  pub no_more_nodes : (down right : ℤ) (t : Tree) → node_count (shifted down right t) ≤ node_count t
  no_more_nodes down right (number n) = omega arith
  no_more_nodes down right (truth b) = omega arith
  no_more_nodes down right (error k) = omega arith
  no_more_nodes down right (reference r) = omega (arith, lost_count (shifted_reference down right r))
  no_more_nodes down right (prefix op t) = omega (arith, no_more_nodes down right t)
  no_more_nodes down right (binary op l r) = omega (arith, no_more_nodes down right l, no_more_nodes down right r)
  no_more_nodes down right (call f ps) = omega (arith, call_count f (all_shifted down right ps), none_more down right ps)

  none_more : (down right : ℤ) (ps : Trees) → all_nodes (all_shifted down right ps) ≤ all_nodes ps
  none_more down right no_trees = omega arith
  none_more down right (and_trees t rest) = omega (arith, no_more_nodes down right t, none_more down right rest)

lost_references : (o : Option Reference) → length (references_of (or_lost o)) ≤ 1
lost_references None = omega arith
lost_references (Some r) = omega arith

call_references : (f : Function) (ps : Trees) → length (references_of (call_or_lost f ps)) ≤ length (all_references ps)
call_references f ps = by_test (references_at (shape_of f).references (tree_list ps)) refl
  where
    by_test : (b : Bool) → references_at (shape_of f).references (tree_list ps) ≡ b → length (references_of (call_or_lost f ps)) ≤ length (all_references ps)
    by_test true e = rw e (omega arith)
    by_test false e = rw e (omega arith)

mutual
  pub no_more_references : (down right : ℤ) (t : Tree) → length (references_of (shifted down right t)) ≤ length (references_of t)
  no_more_references down right (number n) = omega arith
  no_more_references down right (truth b) = omega arith
  no_more_references down right (error k) = omega arith
  no_more_references down right (reference r) = omega (arith, lost_references (shifted_reference down right r))
  no_more_references down right (prefix op t) = no_more_references down right t
  no_more_references down right (binary op l r) = omega (
    arith,
    no_more_references down right l,
    no_more_references down right r,
    length-append (references_of l) (references_of r),
    length-append (references_of (shifted down right l)) (references_of (shifted down right r)),
  )
  no_more_references down right (call f ps) = omega (arith, call_references f (all_shifted down right ps), no_more_of_all down right ps)

  no_more_of_all : (down right : ℤ) (ps : Trees) → length (all_references (all_shifted down right ps)) ≤ length (all_references ps)
  no_more_of_all down right no_trees = omega arith
  no_more_of_all down right (and_trees t rest) = omega (
    arith,
    no_more_references down right t,
    no_more_of_all down right rest,
    length-append (references_of t) (all_references rest),
    length-append (references_of (shifted down right t)) (all_references (all_shifted down right rest)),
  )

-- by nothing all stays
still_part : (fixed : Bool) (part : ℕ) → IsMovedPart fixed (pos 0) part part
still_part true part = refl
still_part false part = omega (arith, ints)

still_end : (a : Anchor) → IsNamed a.cell.row a.cell.col → shifted_end (pos 0) (pos 0) a ≡ Some a
still_end a named = moved_end (pos 0) (pos 0) a a (record {
  row = still_part a.row_fixed a.cell.row;
  col = still_part a.col_fixed a.cell.col;
  row_fixed = refl;
  col_fixed = refl;
  named = named;
})

chosen : {A : Type 0} (b : Bool) (x y : A) → b ≡ true → (if b then x else y) ≡ x
chosen true x y e = refl
chosen false x y e = absurd (cc e)

lesser_first : (a b : Anchor) → IsOrdered a.cell b.cell → lesser a b ≡ a
lesser_first a b h =
    let cols : nat_le a.cell.col b.cell.col ≡ true = grind (arith, nat_tests, h.cols) in
    let rows : nat_le a.cell.row b.cell.row ≡ true = grind (arith, nat_tests, h.rows) in
    same_end (omega (arith, h.rows)) (omega (arith, h.cols)) (chosen _ a.col_fixed b.col_fixed cols) (chosen _ a.row_fixed b.row_fixed rows)

greater_second : (a b : Anchor) → IsOrdered a.cell b.cell → greater a b ≡ b
greater_second a b h =
    let cols : nat_le a.cell.col b.cell.col ≡ true = grind (arith, nat_tests, h.cols) in
    let rows : nat_le a.cell.row b.cell.row ≡ true = grind (arith, nat_tests, h.rows) in
    same_end (omega (arith, h.rows)) (omega (arith, h.cols)) (chosen _ b.col_fixed a.col_fixed cols) (chosen _ b.row_fixed a.row_fixed rows)

abbrev with_ends : Bool → Anchor → Anchor → Reference
with_ends single head tail = record { head = head; tail = tail; single = single }

still_ends : (single : Bool) (head tail : Anchor) → IsReference head tail single
    → shifted_ends (pos 0) (pos 0) single head tail ≡ Some (with_ends single head tail)
still_ends true head tail is = rw (still_end head is.head_named) (ap (λ (t : Anchor). Some (with_ends true head t)) (is.one_end refl))
still_ends false head tail is =
    rw (still_end head is.head_named, still_end tail is.tail_named)
    (ap (λ (a : Anchor). Some (with_ends false a (greater head tail))) (lesser_first head tail is.ordered)
    ∙ ap (λ (b : Anchor). Some (with_ends false head b)) (greater_second head tail is.ordered))

mutual
  pub stays : (t : Tree) → IsFitting t → shifted (pos 0) (pos 0) t ≡ t
  stays (number n) h = refl
  stays (truth b) h = refl
  stays (error k) h = refl
  stays (reference r) h = ap or_lost (still_ends r.single r.head r.tail h)
  stays (prefix op t) h = ap (prefix op) (stays t h)
  stays (binary op l r) h = ap (λ (x : Tree). binary op x (shifted (pos 0) (pos 0) r)) (stays l h.0) ∙ ap (binary op l) (stays r h.1)
  stays (call f ps) h = ap (call_or_lost f) (stay ps h.1) ∙ rw (all_complete (shape_of f).references (tree_list ps) h.0.references) refl

  stay : (ps : Trees) → AreFitting ps → all_shifted (pos 0) (pos 0) ps ≡ ps
  stay no_trees h = refl
  stay (and_trees t rest) h = ap (λ (x : Tree). and_trees x (all_shifted (pos 0) (pos 0) rest)) (stays t h.0) ∙ ap (and_trees t) (stay rest h.1)

-- two steps are one
part_twice : (fixed : Bool) (last : ℕ) (by further : ℤ) (part one two : ℕ) → shifted_part fixed last by part ≡ Some one
    → shifted_part fixed last further one ≡ Some two → shifted_part fixed last (by +ℤ further) part ≡ Some two
part_twice true last by further part one two e f = ap Some (same_Some part one e ∙ same_Some one two f)
part_twice false last by further part one two e f =
    let (first, _, _) = named_number last one (pos part +ℤ by) e in
    let (second, from, to) = named_number last two (pos one +ℤ further) f in
    number_named last two (pos part +ℤ (by +ℤ further)) (omega (arith, ints, first, second)) from to

-- two parts that were put in order are shifted as they were before
record Parted (last : ℕ) (by : ℤ) (p q : Bool) (a b lower upper : ℕ) : Type 0 where
  first : ℕ
  second : ℕ
  one : shifted_part p last by a ≡ Some first
  two : shifted_part q last by b ≡ Some second
  low : min first second ≡ min lower upper
  high : max first second ≡ max lower upper

parted : (last : ℕ) (by : ℤ) (p q : Bool) (a b lower upper : ℕ)
    → shifted_part (if nat_le a b then p else q) last by (min a b) ≡ Some lower
    → shifted_part (if nat_le a b then q else p) last by (max a b) ≡ Some upper → Parted last by p q a b lower upper
parted last by p q a b lower upper e f = by_test (nat_le a b) refl
  where
    by_test : (t : Bool) → nat_le a b ≡ t → Parted last by p q a b lower upper
    by_test true is =
        let least : min a b ≡ a = grind (arith, nat_tests) in
        let most : max a b ≡ b = grind (arith, nat_tests) in
        record { first = lower; second = upper; one = rw (is, least) at e; two = rw (is, most) at f; low = refl; high = refl }
    by_test false is =
        let least : min a b ≡ b = grind (arith, nat_tests) in
        let most : max a b ≡ a = grind (arith, nat_tests) in
        record { first = upper; second = lower; one = rw (is, most) at f; two = rw (is, least) at e; low = omega arith; high = omega arith }

end_twice : (down right further across : ℤ) (a b c : Anchor) → shifted_end down right a ≡ Some b
    → shifted_end further across b ≡ Some c → shifted_end (down +ℤ further) (right +ℤ across) a ≡ Some c
end_twice down right further across a b c e f =
    let (row, col, row_is, col_is, is) = ends_by a (shifted_part a.row_fixed 1048576 down a.cell.row) (shifted_part a.col_fixed 16384 right a.cell.col) b e in
    let g : shifted_end further across (at_cell a row col) ≡ Some c = subst (λ (x : Anchor). shifted_end further across x ≡ Some c) (sym is) f in
    let (row2, col2, row_is2, col_is2, is2) = ends_by (at_cell a row col) (shifted_part a.row_fixed 1048576 further row)
    (shifted_part a.col_fixed 16384 across col) c g in
    rw (
      part_twice a.row_fixed 1048576 down further a.cell.row row row2 row_is row_is2,
      part_twice a.col_fixed 16384 right across a.cell.col col col2 col_is col_is2,
    ) (ap Some is2)

abbrev SumsTo : ℤ → ℤ → Reference → Reference → Type 0
SumsTo down right first third = (sum : Reference) × (shifted_reference down right first ≡ Some sum) × (corners_of sum ≡ corners_of third)

abbrev corners_at : ℕ → ℕ → ℕ → ℕ → Corners
corners_at top left bottom right = record { head = record { row = top; col = left }; tail = record { row = bottom; col = right } }

same_corners : {a b c d e f g h : ℕ} → a ≡ b → c ≡ d → e ≡ f → g ≡ h → corners_at a c e g ≡ corners_at b d f h
same_corners first second third fourth = cc

-- the ends of a reference whose ends were put in order, shifted, are those of the ends as they were
record Unordered (further across : ℤ) (a b lower upper : Anchor) : Type 0 where
  first : Anchor
  second : Anchor
  one : shifted_end further across a ≡ Some first
  two : shifted_end further across b ≡ Some second
  corners : corners_of (two_ends first second) ≡ corners_of (two_ends lower upper)

unordered : (further across : ℤ) (a b lower upper : Anchor) → shifted_end further across (lesser a b) ≡ Some lower
    → shifted_end further across (greater a b) ≡ Some upper → Unordered further across a b lower upper
unordered further across a b lower upper e f =
    let low = lesser a b in
    let high = greater a b in
    let (r, c, r_is, c_is, is) = ends_by low (shifted_part low.row_fixed 1048576 further low.cell.row)
    (shifted_part low.col_fixed 16384 across low.cell.col) lower e in
    let (s, d, s_is, d_is, also) = ends_by high (shifted_part high.row_fixed 1048576 further high.cell.row)
    (shifted_part high.col_fixed 16384 across high.cell.col) upper f in
    let rows = parted 1048576 further a.row_fixed b.row_fixed a.cell.row b.cell.row r s r_is s_is in
    let cols = parted 16384 across a.col_fixed b.col_fixed a.cell.col b.cell.col c d c_is d_is in
    record {
      first = at_cell a rows.first cols.first;
      second = at_cell b rows.second cols.second;
      one = rw (rows.one, cols.one) refl;
      two = rw (rows.two, cols.two) refl;
      corners = same_corners rows.low cols.low rows.high cols.high
          ∙ (ap (λ (x : Anchor). corners_of (two_ends x (at_cell high s d))) is ∙ ap (λ (x : Anchor). corners_of (two_ends lower x)) also);
    }

ends_twice : (down right further across : ℤ) (single : Bool) (head tail : Anchor) (second third : Reference)
    → shifted_ends down right single head tail ≡ Some second → shifted_reference further across second ≡ Some third
    → SumsTo (down +ℤ further) (right +ℤ across) (with_ends single head tail) third
ends_twice down right further across true head tail second third e f =
    let (a, one, is) = one_shifted down right head tail second e in
    let g : shifted_ends further across true a a ≡ Some third = subst (λ (x : Reference). shifted_reference further across x ≡ Some third) (sym is) f in
    let (b, two, also) = one_shifted further across a a third g in
    (one_end b, rw (end_twice down right further across head a b one two) refl, ap corners_of also)
ends_twice down right further across false head tail second third e f =
    let (a, b, one, two, is) = two_shifted down right head tail second e in
    let g : shifted_ends further across false (lesser a b) (greater a b) ≡ Some third =
    subst (λ (x : Reference). shifted_reference further across x ≡ Some third) (sym is) f in
    let (lower, upper, less, more, also) = two_shifted further across (lesser a b) (greater a b) third g in
    let h = unordered further across a b lower upper less more in (
      two_ends h.first h.second,
      rw (end_twice down right further across head a h.first one h.one, end_twice down right further across tail b h.second two h.two) refl,
      h.corners ∙ ap corners_of also,
    )

pub shifts_add : (down right further across : ℤ) (first second third : Reference)
    → shifted_reference down right first ≡ Some second → shifted_reference further across second ≡ Some third
    → SumsTo (down +ℤ further) (right +ℤ across) first third
shifts_add down right further across first second third e f = ends_twice down right further across first.single first.head first.tail second third e f

-- so a shifted formula keeps the limits
pub formula_kept : (down right : ℤ) (t : Tree) → IsFormula t → IsFormula (shifted down right t)
formula_kept down right t h = record {
  few_nodes = omega (arith, h.few_nodes, no_more_nodes down right t);
  few_references = omega (arith, h.few_references, no_more_references down right t);
  fitting = stays_fitting down right t h.fitting;
}
