-- Sets of cells that grow: how many named cells they lack, and what gathers in a list of ranges.
use Rattle.std.proofs.Common.{◌≡◌, ℕ, zero, suc, ◌+◌, ◌<◌, ◌≤◌, ◌↔◌, ◌⊎◌, inl, inr, ◌&&◌, ◌||◌, not, Bool, true, false}
use Rattle.std.proofs.Common.{cond, List, [], ◌∷◌, ◌++◌, length, get_or, take, refl, sym, ◌∙◌, ap, subst, arith}
use Rattle.std.proofs.Common.{length-append, length-take}
use Rattle.std.specs.Prelude.{nat_le}
use Rattle.std.proofs.lemmas.Bool.{le-leb, leb-true}
use Rattle.std.proofs.lemmas.List.{take_all, take_more, append_assoc, append-nil, get_or_default, get_or-take, length_push}
use Rattle.sheet_refs.specs.Cells.{Position, Corners, IsIn, IsNamed, IsOrdered, cells_of}
use Rattle.sheet_refs.specs.Rectangles.{IsAmong, IsNew, Joins, AreDisjoint, Tile}
use Rattle.sheet_refs.proofs.ColumnLemmas.{among_cons, none_among}
use Rattle.sheet_refs.proofs.Grid.{cells_listed}
use Rattle.sheet_refs.proofs.Tiles.{among_append, among_one, among_at}
use Rattle.graph_walk.specs.Gathers.{is_in, is_among, count_where, all_cells, absent, Gathers, IsUnionOf, IsRunFrom}

and_true : (a b : Bool) → (a && b) ≡ true → (a ≡ true) × (b ≡ true)
and_true true b both = (refl, both)
and_true false b both = absurd (cc)

true_and : (a b : Bool) → a ≡ true → b ≡ true → (a && b) ≡ true
true_and true b first second = second
true_and false b first second = absurd (cc)

-- the test tells whether a cell is in a range
is_in_tells : (cell : Position) (range : Corners) → (is_in cell range ≡ true) ↔ IsIn cell range
is_in_tells cell range = (to, from)
  where
    rows : Bool
    rows = nat_le range.head.row cell.row && nat_le cell.row range.tail.row

    cols : Bool
    cols = nat_le range.head.col cell.col && nat_le cell.col range.tail.col

    to : (rows && cols) ≡ true → IsIn cell range
    to both =
        let split = and_true rows cols both in
        let r = and_true (nat_le range.head.row cell.row) (nat_le cell.row range.tail.row) split.0 in
        let c = and_true (nat_le range.head.col cell.col) (nat_le cell.col range.tail.col) split.1 in
        record { row_from = leb-true _ _ r.0; row_to = leb-true _ _ r.1; col_from = leb-true _ _ c.0; col_to = leb-true _ _ c.1 }

    from : IsIn cell range → (rows && cols) ≡ true
    from inside =
        true_and rows cols
        (true_and (nat_le range.head.row cell.row) (nat_le cell.row range.tail.row) (le-leb _ _ inside.row_from) (le-leb _ _ inside.row_to))
        (true_and (nat_le range.head.col cell.col) (nat_le cell.col range.tail.col) (le-leb _ _ inside.col_from) (le-leb _ _ inside.col_to))

or_left : (a b : Bool) → a ≡ true → (a || b) ≡ true
or_left true b is = refl
or_left false b is = absurd (cc)

or_right : (a b : Bool) → b ≡ true → (a || b) ≡ true
or_right true b is = refl
or_right false b is = is

among_tells : (ranges : List Corners) (cell : Position) → (is_among ranges cell ≡ true) ↔ IsAmong ranges cell
among_tells [] cell = (λ test. absurd (cc), λ among. absurd (none_among cell among))
among_tells (range ∷ ranges) cell =
    let here = is_in_tells cell range in
    let rest = among_tells ranges cell in
    let both = among_cons range ranges cell in (
      λ test. by_first (is_in cell range) refl test rest.0 here.0 both.1,
      λ among. elim (both.0 among) [
        | inl inside ↦ or_left (is_in cell range) (is_among ranges cell) (here.1 inside)
        | inr later ↦ or_right (is_in cell range) (is_among ranges cell) (rest.1 later)
      ],
    )
  where
    by_first : (first : Bool) → is_in cell range ≡ first → (first || is_among ranges cell) ≡ true
        → (is_among ranges cell ≡ true → IsAmong ranges cell) → (is_in cell range ≡ true → IsIn cell range)
        → (IsIn cell range ⊎ IsAmong ranges cell → IsAmong (range ∷ ranges) cell) → IsAmong (range ∷ ranges) cell
    by_first true is test rest here join = join (inl (here is))
    by_first false is test rest here join = join (inr (rest test))

-- a cell is among some ranges, or it is not
pub among_or_not : (ranges : List Corners) (cell : Position) → IsAmong ranges cell ⊎ (IsAmong ranges cell → ⊥)
among_or_not ranges cell = at (is_among ranges cell) refl
  where
    at : (test : Bool) → is_among ranges cell ≡ test → IsAmong ranges cell ⊎ (IsAmong ranges cell → ⊥)
    at true is = inl ((among_tells ranges cell).0 is)
    at false is = inr (λ among. absurd (let yes : is_among ranges cell ≡ true = (among_tells ranges cell).1 among in cc))

-- fewer pass a test that lets nothing more pass, and not one that passed
count_at_most : (p q : Position → Bool) (cells : List Position) → ((cell : Position) → q cell ≡ true → p cell ≡ true)
    → count_where q cells ≤ count_where p cells
count_at_most p q [] less = omega arith
count_at_most p q (cell ∷ cells) less =
    let rest = count_at_most p q cells less in
    let here : cond (q cell) 1 0 ≤ cond (p cell) 1 0 = at (q cell) (p cell) refl refl in
    omega (arith, rest, here)
  where
    at : (b a : Bool) → q cell ≡ b → p cell ≡ a → cond b 1 0 ≤ cond a 1 0
    at false a is_q is_p = omega arith
    at true true is_q is_p = omega arith
    at true false is_q is_p = absurd (let yes : p cell ≡ true = less cell is_q in cc)

count_below : (p q : Position → Bool) (cells : List Position) (k : ℕ) (lost : Position)
    → ((cell : Position) → q cell ≡ true → p cell ≡ true) → k < length cells → get_or cells k lost ≡ lost
    → p lost ≡ true → q lost ≡ false → count_where q cells < count_where p cells
count_below p q [] k lost less below is was now = absurd (omega arith)
count_below p q (cell ∷ cells) zero lost less below is was now =
    let rest = count_at_most p q cells less in
    let before : p cell ≡ true = rw is was in
    let after : q cell ≡ false = rw is now in
    rw (before, after) (omega (arith, rest))
count_below p q (cell ∷ cells) (suc k) lost less below is was now =
    let rest = count_below p q cells k lost less (omega arith) is was now in
    let here : cond (q cell) 1 0 ≤ cond (p cell) 1 0 = at (q cell) (p cell) refl refl in
    omega (arith, rest, here)
  where
    at : (b a : Bool) → q cell ≡ b → p cell ≡ a → cond b 1 0 ≤ cond a 1 0
    at false a is_q is_p = omega arith
    at true true is_q is_p = omega arith
    at true false is_q is_p = absurd (let yes : p cell ≡ true = less cell is_q in cc)

-- a set that gains a named cell lacks fewer of them
pub absent-falls : (old new : List Corners) (cell : Position) → ((c : Position) → IsAmong old c → IsAmong new c)
    → IsNamed cell.row cell.col → (IsAmong old cell → ⊥) → IsAmong new cell → absent new < absent old
unfolding absent all_cells
absent-falls old new cell more named was_not is =
    let everything : Corners = record { head = record { row = 1; col = 1 }; tail = record { row = 1048576; col = 16384 } } in
    let listed = (cells_listed everything (record { rows = omega arith; cols = omega arith }) cell).1
    (record { row_from = named.row_from; row_to = named.row_to; col_from = named.col_from; col_to = named.col_to })
    in
    count_below (λ c. not (is_among old c)) (λ c. not (is_among new c)) (cells_of everything) listed.0 cell less
    listed.1 listed.2 (not_among old cell was_not) (let yes : is_among new cell ≡ true = (among_tells new cell).1 is
    in rw yes)
  where
    not_among : (ranges : List Corners) (c : Position) → (IsAmong ranges c → ⊥) → not (is_among ranges c) ≡ true
    not_among ranges c none = at (is_among ranges c) refl
      where
        at : (test : Bool) → is_among ranges c ≡ test → not test ≡ true
        at true is = absurd (none ((among_tells ranges c).0 is))
        at false is = refl

    less : (c : Position) → not (is_among new c) ≡ true → not (is_among old c) ≡ true
    less c free = not_among old c (λ among. let yes : is_among new c ≡ true = (among_tells new c).1 (more c among) in
        absurd (let free_not : not (is_among new c) ≡ false = rw yes in cc))

-- some ranges have joined a set and wait, each with a cell that the set did not have
pub record Admitted (old new waited waiting added : List Corners) : Type 0 where
  pub waits : waiting ≡ waited ++ added
  pub gained : (cell : Position) → IsAmong new cell ↔ (IsAmong old cell ⊎ IsAmong added cell)
  pub fewer : absent new + length added ≤ absent old

among_same : (xs ys : List Corners) (cell : Position) → xs ≡ ys → IsAmong xs cell → IsAmong ys cell
among_same xs ys cell same among = subst (λ (rs : List Corners). IsAmong rs cell) same among

-- one more range to each of the first so many of a list
take_next : (ranges : List Corners) (place : ℕ) (range : Corners) → place < length ranges
    → range ≡ get_or ranges place range → take (place + 1) ranges ≡ take place ranges ++ range ∷ []
take_next ranges place range within here = take_more ranges place range within ∙ ap (λ (r : Corners). take place ranges ++ r ∷ []) (sym here)

pub among_next : (ranges : List Corners) (range : Corners) (cell : Position) → IsAmong (ranges ++ range ∷ []) cell ↔ (IsAmong ranges cell ⊎ IsIn cell range)
among_next ranges range cell =
    let both = among_append ranges (range ∷ []) cell in (
      λ among. elim (both.0 among) [ inl old ↦ inl old | inr new ↦ inr (among_one range cell new) ],
      λ found. elim found [
        | inl old ↦ both.1 (inl old)
        | inr inside ↦
            both.1 (inr (record { range = range; listed = (0, omega arith, refl); inside = inside }))
      ],
    )

-- a cell of one of the first parts of a tiling is not in a later one
apart_from_first : (parts : List Corners) (place : ℕ) (cell : Position) → AreDisjoint parts → place < length parts
    → IsIn cell (get_or parts place (record { head = cell; tail = cell })) → IsAmong (take place parts) cell → ⊥
apart_from_first parts place cell disjoint within inside among =
    let d : Corners = record { head = cell; tail = cell } in
    let k : ℕ = among.listed.0 in
    let before : k < place = omega (arith, among.listed.1, length-take place parts) in
    let first : IsIn cell (get_or parts k d) = subst (λ (r : Corners). IsIn cell r) (sym among.listed.2
    ∙ (get_or-take place parts k among.range before ∙ get_or_default parts k among.range d (omega arith)))
    among.inside in
    disjoint k place d before within (cell, record { first = first; second = inside })

pub admitted_more : (old now new waited waiting later parts : List Corners) (range : Corners) (place : ℕ) (part : Corners)
    → Admitted old now waited waiting (take place parts) → Tile parts (IsNew old range) → place < length parts → part ≡ get_or parts place part
    → IsOrdered part.head part.tail → IsNamed part.head.row part.head.col → Joins now new part → later ≡ waiting ++ part ∷ []
    → Admitted old new waited later (take (place + 1) parts)
admitted_more old now new waited waiting later parts range place part known tiled within here ordered named joined pushed = record {
  waits = pushed ∙ (ap (λ (w : List Corners). w ++ part ∷ []) known.waits
      ∙ (append_assoc waited (take place parts) (part ∷ []) ∙ ap (λ (a : List Corners). waited ++ a) (sym next)));
  gained = λ cell. (to cell, from cell);
  fewer = fewer;
}
  where
    next : take (place + 1) parts ≡ take place parts ++ part ∷ []
    next = take_next parts place part within here

    to : (cell : Position) → IsAmong new cell → IsAmong old cell ⊎ IsAmong (take (place + 1) parts) cell
    to cell among = elim ((joined cell).0 among) [
      | inl before ↦ elim ((known.gained cell).0 before) [
        | inl is_old ↦ inl is_old
        | inr first ↦ inr (among_same _ _ cell (sym next) ((among_next (take place parts) part cell).1 (inl first)))
      ]
      | inr inside ↦ inr (among_same _ _ cell (sym next) ((among_next (take place parts) part cell).1 (inr inside)))
    ]

    from : (cell : Position) → IsAmong old cell ⊎ IsAmong (take (place + 1) parts) cell → IsAmong new cell
    from cell (inl is_old) = (joined cell).1 (inl ((known.gained cell).1 (inl is_old)))
    from cell (inr added) = elim ((among_next (take place parts) part cell).0 (among_same _ _ cell next added)) [
      | inl first ↦ (joined cell).1 (inl ((known.gained cell).1 (inr first)))
      | inr inside ↦ (joined cell).1 (inr inside)
    ]

    head_in : IsIn part.head part
    head_in = record { row_from = omega arith; row_to = ordered.rows; col_from = omega arith; col_to = ordered.cols }

    same_part : part ≡ get_or parts place (record { head = part.head; tail = part.head })
    same_part = here ∙ get_or_default parts place part (record { head = part.head; tail = part.head }) within

    head_new : IsNew old range part.head
    head_new = (tiled.exact part.head).0 (among_at parts place part part.head within (subst (λ (r : Corners). IsIn part.head r) here head_in))

    absent_now : IsAmong now part.head → ⊥
    absent_now among = elim ((known.gained part.head).0 among) [
      | inl is_old ↦ head_new.absent is_old
      | inr first ↦ apart_from_first parts place part.head tiled.disjoint within (subst (λ (r : Corners). IsIn part.head r) same_part head_in) first
    ]

    fewer : absent new + length (take (place + 1) parts) ≤ absent old
    fewer =
        let falls : absent new < absent now = absent-falls now new part.head (λ c among. (joined c).1 (inl among)) named
        absent_now ((joined part.head).1 (inr head_in)) in
        let length_next : length (take (place + 1) parts) ≡ length (take place parts) + 1 = ap length next ∙ length_push (take place parts) part in
        omega (arith, falls, length_next, known.fewer)

-- all parts of what a range adds have joined
pub admitted_all : (old new waited waiting parts : List Corners) (range : Corners)
    → Admitted old new waited waiting parts → Tile parts (IsNew old range)
    → Gathers old new waited waiting (λ cell. IsIn cell range)
admitted_all old new waited waiting parts range known tiled = record {
  added = parts;
  waits = known.waits;
  gained = known.gained;
  only = λ cell among. ((tiled.exact cell).0 among).inside;
  all = λ cell inside. elim (among_or_not old cell) [
    | inl is_old ↦ (known.gained cell).1 (inl is_old)
    | inr none ↦ (known.gained cell).1 (inr ((tiled.exact cell).1 (record { inside = inside; absent = none })))
  ];
  fewer = known.fewer;
}

same_position : (a b : Position) → a.row ≡ b.row → a.col ≡ b.col → a ≡ b
same_position a b row col = rw (row, col) refl

-- a range of one cell that a set has adds nothing
pub one_is_there : (set waiting : List Corners) (range : Corners) → range.head ≡ range.tail → IsAmong set range.head
    → Gathers set set waiting waiting (λ cell. IsIn cell range)
one_is_there set waiting range one among = record {
  added = [];
  waits = sym (append-nil waiting);
  gained = λ cell. (λ is. inl is, λ found. elim found [ inl is ↦ is | inr none ↦ absurd (none_among cell none) ]);
  only = λ cell none. absurd (none_among cell none);
  all = λ cell inside. subst (λ (p : Position). IsAmong set p) (head_is cell inside) among;
  fewer = omega arith;
}
  where
    rows : range.head.row ≡ range.tail.row
    rows = ap (λ (p : Position). p.row) one

    cols : range.head.col ≡ range.tail.col
    cols = ap (λ (p : Position). p.col) one

    head_is : (cell : Position) → IsIn cell range → range.head ≡ cell
    head_is cell inside =
        same_position range.head cell (omega (arith, rows, inside.row_from, inside.row_to))
        (omega (arith, cols, inside.col_from, inside.col_to))

-- a range whose first cell a set lacks has joined it, and waits
pub one_is_new : (old new waited waiting : List Corners) (range : Corners) → (IsAmong old range.head → ⊥)
    → IsOrdered range.head range.tail → IsNamed range.head.row range.head.col → Joins old new range → waiting ≡ waited ++ range ∷ []
    → Gathers old new waited waiting (λ cell. IsIn cell range)
one_is_new old new waited waiting range none ordered named joined pushed = record {
  added = range ∷ [];
  waits = pushed;
  gained = λ cell. (
    λ among. elim ((joined cell).0 among) [ inl is_old ↦ inl is_old | inr inside ↦ inr (alone cell inside) ],
    λ found. elim found [ inl is_old ↦ (joined cell).1 (inl is_old) | inr new ↦ (joined cell).1 (inr (among_one range cell new)) ],
  );
  only = λ cell new. among_one range cell new;
  all = λ cell inside. (joined cell).1 (inr inside);
  fewer =
      let falls : absent new < absent old = absent-falls old new range.head (λ c among. (joined c).1 (inl among)) named none
      ((joined range.head).1 (inr head_in)) in
      omega (arith, falls);
}
  where
    alone : (cell : Position) → IsIn cell range → IsAmong (range ∷ []) cell
    alone cell inside = record { range = range; listed = (0, omega arith, refl); inside = inside }

    head_in : IsIn range.head range
    head_in = record { row_from = omega arith; row_to = ordered.rows; col_from = omega arith; col_to = ordered.cols }

pub gathers_none : (set waiting : List Corners) → Gathers set set waiting waiting (IsAmong [])
gathers_none set waiting = record {
  added = [];
  waits = sym (append-nil waiting);
  gained = λ cell. (λ among. inl among, λ found. elim found [ inl among ↦ among | inr none ↦ absurd (none_among cell none) ]);
  only = λ cell among. among;
  all = λ cell among. absurd (none_among cell among);
  fewer = omega arith;
}

-- what has gathered twice has gathered together
pub gathers_both : {One Other Both : Position → Type 0} (old now new waited waiting later : List Corners)
    → ((cell : Position) → Both cell ↔ (One cell ⊎ Other cell))
    → Gathers old now waited waiting One
    → Gathers now new waiting later Other
    → Gathers old new waited later Both
gathers_both {One = One} {Other = Other} {Both = Both} old now new waited waiting later either first second = record {
  added = first.added ++ second.added;
  waits = second.waits ∙ (ap (λ (w : List Corners). w ++ second.added) first.waits ∙ append_assoc waited first.added second.added);
  gained = λ cell. (to cell, from_either cell);
  only = only;
  all = all;
  fewer = let lengths = length-append first.added second.added in omega (arith, lengths, first.fewer, second.fewer);
}
  where
    to : (cell : Position) → IsAmong new cell → IsAmong old cell ⊎ IsAmong (first.added ++ second.added) cell
    to cell among = elim ((second.gained cell).0 among) [
      | inl before ↦ elim ((first.gained cell).0 before) [
        | inl is_old ↦ inl is_old
        | inr added ↦ inr ((among_append first.added second.added cell).1 (inl added))
      ]
      | inr added ↦ inr ((among_append first.added second.added cell).1 (inr added))
    ]

    from_either : (cell : Position) → IsAmong old cell ⊎ IsAmong (first.added ++ second.added) cell → IsAmong new cell
    from_either cell (inl is_old) = (second.gained cell).1 (inl ((first.gained cell).1 (inl is_old)))
    from_either cell (inr added) = elim ((among_append first.added second.added cell).0 added) [
      | inl one ↦ (second.gained cell).1 (inl ((first.gained cell).1 (inr one)))
      | inr two ↦ (second.gained cell).1 (inr two)
    ]

    only : (cell : Position) → IsAmong (first.added ++ second.added) cell → Both cell
    only cell added = (either cell).1 (elim ((among_append first.added second.added cell).0 added) [
      | inl one ↦ inl (first.only cell one)
      | inr two ↦ inr (second.only cell two)
    ])

    all : (cell : Position) → Both cell → IsAmong new cell
    all cell is = elim ((either cell).0 is) [
      | inl before ↦ (second.gained cell).1 (inl (first.all cell before))
      | inr inside ↦ second.all cell inside
    ]

-- one range is a run
pub run_begins : (found : List Corners) (from : ℕ) (range : Corners) → from < length found → range ≡ get_or found from range
    → IsRunFrom found from (from + 1) range
run_begins found from range within here cell =
    let next : take (from + 1) found ≡ take from found ++ range ∷ [] = take_next found from range within here in
    let both = among_next (take from found) range cell in (
      λ among. both.0 (among_same _ _ cell next among),
      λ either. among_same _ _ cell (sym next) (both.1 either),
    )

-- a run with the next range, where they have the cells of one
pub run_goes_on : (found : List Corners) (from place : ℕ) (run range longer : Corners) → place < length found
    → range ≡ get_or found place range → IsUnionOf run range longer → IsRunFrom found from place run
    → IsRunFrom found from (place + 1) longer
run_goes_on found from place run range longer within here union is_run cell =
    let one = run_begins found place range within here cell in (
      λ among. elim (one.0 among) [
        | inl before ↦ elim ((is_run cell).0 before) [ inl first ↦ inl first | inr inside ↦ inr ((union cell).1 (inl inside)) ]
        | inr inside ↦ inr ((union cell).1 (inr inside))
      ],
      λ either. elim either [
        | inl first ↦ one.1 (inl ((is_run cell).1 (inl first)))
        | inr inside ↦ elim ((union cell).0 inside) [
          | inl in_run ↦ one.1 (inl ((is_run cell).1 (inr in_run)))
          | inr in_range ↦ one.1 (inr in_range)
        ]
      ],
    )

-- a run up to the last range
pub run_ends : (found : List Corners) (from place : ℕ) (run : Corners) → length found ≤ place → IsRunFrom found from place run
    → IsRunFrom found from (length found) run
run_ends found from place run past is_run =
    let same : take place found ≡ take (length found) found = take_all place found past ∙ sym (take_all (length found) found (omega arith)) in
    λ cell. (
      λ among. (is_run cell).0 (among_same _ _ cell (sym same) among),
      λ either. among_same _ _ cell same ((is_run cell).1 either),
    )

-- all items of a list are its first so many
pub admitted_end : (old new waited waiting parts : List Corners) (place : ℕ) → length parts ≤ place
    → Admitted old new waited waiting (take place parts) → Admitted old new waited waiting parts
admitted_end old new waited waiting parts place past known =
    subst (λ (added : List Corners). Admitted old new waited waiting added) (take_all place parts past) known

pub gathers_end : (old new waited waiting found : List Corners) (place : ℕ) → length found ≤ place
    → Gathers old new waited waiting (IsAmong (take place found)) → Gathers old new waited waiting (IsAmong found)
gathers_end old new waited waiting found place past known =
    subst (λ (ranges : List Corners). Gathers old new waited waiting (IsAmong ranges)) (take_all place found past) known
