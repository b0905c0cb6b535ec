-- Ranges listed once each.
use Rattle.std.proofs.Common.{◌≡◌, ◌≢◌, ℕ, ◌+◌, ◌<◌, ◌≤◌, List, [], ◌∷◌, ◌++◌, length, map, inl, inr, refl, sym, ap, ◌∙◌, subst, arith, append_assoc}
use Rattle.std.specs.List.{All, Contains}
use Rattle.std.specs.Prelude.{IfOk, Result, Ok, Err}
use Rattle.std.specs.Borrow.{Bor}
use Rattle.std.proofs.lemmas.List.{append-nil, length-append}
use Rattle.std.proofs.lemmas.List.Elements.{Contains-push, Contains-push_cases, Contains-append_left, Contains-get_or, All-contains}
use Rattle.std.proofs.lemmas.List.Quantifiers.{all_pairs_push}
use Rattle.sheet_refs.specs.Cells.{Corners}
use Rattle.sheet_refs.specs.Ends.{Reference, corners_of}
use Rattle.sheet_refs.specs.Refs.{AreRefs, AreDistinct}
use Rattle.formula_syntax.specs.declared.tree.Node.{Node}
use Rattle.formula_syntax.specs.declared.tree.Nodes.{Nodes}
use Rattle.formula_syntax.specs.Tree.{Tree, reference, prefix, binary, call, tree_of, trees_of, parameters_of, references_of, all_references}
use Rattle.formula_syntax.specs.Listing.{visit_count, all_visits}
use Rattle.formula_syntax.specs.Listing.{AreLeft, IsOnceEach, head_place, references_left, lists_left, Lists}
use Rattle.formula_syntax.specs.Listing.IsOnceEach.{nothing, again, first}

-- what was listed are the ranges that stood
pub once_all : (all ranges : List Corners) (x : Corners) → IsOnceEach all ranges → Contains all x → Contains ranges x
once_all _ _ x nothing h = h
once_all _ ranges x (again all _ longer range once there is) h = elim (Contains-push_cases all range x (subst (λ (l : List Corners). Contains l x) is h)) [
  | inl before ↦ once_all all ranges x once before
  | inr same ↦ once_all all ranges x once (subst (λ (y : Corners). Contains all y) same there)
]
once_all _ _ x (first all ranges longer more range once new is also) h =
    elim (Contains-push_cases all range x (subst (λ (l : List Corners). Contains l x) is h)) [
      | inl before ↦ subst (λ (l : List Corners). Contains l x) (sym also) (Contains-append_left ranges (range ∷ []) x (once_all all ranges x once before))
      | inr same ↦
          subst (λ (l : List Corners). Contains l x) (sym also) (subst (λ (y : Corners). Contains (ranges ++ range ∷ []) y)
          same (Contains-push ranges range))
    ]

pub once_back : (all ranges : List Corners) (x : Corners) → IsOnceEach all ranges → Contains ranges x → Contains all x
once_back _ _ x nothing h = h
once_back _ ranges x (again all _ longer range once there is) h =
    subst (λ (l : List Corners). Contains l x) (sym is) (Contains-append_left all (range ∷ []) x (once_back all ranges x once h))
once_back _ _ x (first all ranges longer more range once new is also) h =
    elim (Contains-push_cases ranges range x (subst (λ (l : List Corners). Contains l x) also h)) [
      | inl before ↦ subst (λ (l : List Corners). Contains l x) (sym is) (Contains-append_left all (range ∷ []) x (once_back all ranges x once before))
      | inr same ↦ subst (λ (l : List Corners). Contains l x) (sym is) (subst (λ (y : Corners). Contains (all ++ range ∷ []) y) same (Contains-push all range))
    ]

-- a range more that is among the others, and one that isn't
pub add_known : (ranges : List Corners) (range : Corners) → Contains ranges range → (all : List Corners)
    → IsOnceEach all ranges → IsOnceEach (all ++ range ∷ []) ranges
add_known ranges range there all once = again all ranges (all ++ range ∷ []) range once (once_back all ranges range once there) refl

pub add_new : (ranges more : List Corners) (range : Corners) → ¬ Contains ranges range → more ≡ ranges ++ range ∷ []
    → (all : List Corners) → IsOnceEach all ranges → IsOnceEach (all ++ range ∷ []) more
add_new ranges more range new is all once = first all ranges (all ++ range ∷ []) more range once (λ there. new (once_all all ranges range once there)) refl is

-- a range that begins behind all others isn't among them
pub far_apart : (ranges : List Corners) (range : Corners) (furthest : ℕ) → All (λ r. head_place r ≤ furthest) ranges
    → furthest < head_place range → ¬ Contains ranges range
far_apart ranges range furthest before behind there =
    let no_further = All-contains (λ r. head_place r ≤ furthest) ranges range before there in
    omega (arith, no_further, behind)

-- they are distinct, and no more than stood
pub once_distinct : (all ranges : List Corners) → IsOnceEach all ranges → AreDistinct ranges
once_distinct _ _ nothing = λ i j d before within. absurd (omega (arith, within))
once_distinct _ ranges (again all _ longer range once there is) = once_distinct all ranges once
once_distinct _ _ (first all ranges longer more range once new is also) =
    subst (λ (l : List Corners). AreDistinct l) (sym also)
    (all_pairs_push (λ a b. a ≢ b) ranges range (once_distinct all ranges once)
    (λ k d within same. new (once_back all ranges range once (subst (λ (y : Corners). Contains ranges y) same (Contains-get_or ranges k d within)))))

pub once_few : (all ranges : List Corners) → IsOnceEach all ranges → length ranges ≤ length all
once_few _ _ nothing = omega arith
once_few _ ranges (again all _ longer range once there is) = omega (arith, once_few all ranges once, ap length is, length-append all (range ∷ []))
once_few _ _ (first all ranges longer more range once new is also) =
    omega (arith, once_few all ranges once, ap length is, length-append all (range ∷ []), ap length also, length-append ranges (range ∷ []))

length_map : (rs : List Reference) → length (map corners_of rs) ≡ length rs
length_map [] = refl
length_map (r ∷ rs) = omega (arith, length_map rs)

pub are_refs : (rs : List Reference) (ranges : List Corners) → length rs ≤ 255 → IsOnceEach (map corners_of rs) ranges → AreRefs ranges
are_refs rs ranges few once = record {
  distinct = once_distinct (map corners_of rs) ranges once;
  few = omega (arith, few, once_few (map corners_of rs) ranges once, length_map rs);
}

map_joined : (xs ys : List Reference) → map corners_of (xs ++ ys) ≡ map corners_of xs ++ map corners_of ys
map_joined [] ys = refl
map_joined (x ∷ xs) ys = ap (λ (l : List Corners). corners_of x ∷ l) (map_joined xs ys)

pub left_joined : (xs ys : List (Bor (List Node))) → references_left (xs ++ ys) ≡ references_left ys ++ references_left xs
left_joined [] ys = sym (append-nil (references_left ys))
left_joined (x ∷ xs) ys =
    ap (λ (l : List Reference). l ++ all_references (trees_of x.now)) (left_joined xs ys)
    ∙ append_assoc (references_left ys) (references_left xs) (all_references (trees_of x.now))

pub lists_joined : (xs ys : List (Bor (List Node))) → lists_left (xs ++ ys) ≡ lists_left xs + lists_left ys
lists_joined [] ys = omega arith
lists_joined (x ∷ xs) ys = omega (arith, lists_joined xs ys)

-- what holds of an Ok, and what follows from it
pub ok_more : {A E : Type 0} (r : Result A E) (P Q : A → Type 0) → ((a : A) → P a → Q a) → IfOk r P → IfOk r Q
ok_more (Ok a) P Q more is = more a is
ok_more (Err e) P Q more is = tt

-- a bound on the lists may be larger
pub as_many : (own : List Reference) (count more_lists : ℕ) (left next : List (Bor (List Node))) (ranges more : List Corners)
    → count ≤ more_lists → Lists own count left next ranges more → Lists own more_lists left next ranges more
as_many own count more_lists left next ranges more at_most lists = record {
  said = lists.said;
  added = lists.added;
  kept = lists.kept;
  whole = lists.whole;
  fewer = omega (arith, lists.fewer, at_most);
  listed = lists.listed;
}

-- nothing is listed, and some nodes come next
pub nodes_next : (own : List Reference) (count : ℕ) (left : List (Bor (List Node))) (next : Bor (List Node)) (ranges : List Corners)
    → own ≡ all_references (trees_of next.now) → 1 + all_visits (trees_of next.now) < count → Lists own count left (left ++ next ∷ []) ranges ranges
nodes_next own count left next ranges is fewer = record {
  said = [];
  added = next ∷ [];
  kept = refl;
  whole = is;
  fewer = omega (arith, fewer);
  listed = λ all once. subst (λ (l : List Corners). IsOnceEach l ranges) (sym (append-nil all)) once;
}

-- one node comes next
pub one_next : (node : Node) (count : ℕ) (left : List (Bor (List Node))) (next : Bor (List Node)) (ranges : List Corners)
    → next.now ≡ node ∷ [] → 3 + visit_count (tree_of node) < count
    → Lists (references_of (tree_of node)) count left (left ++ next ∷ []) ranges ranges
one_next node count left next ranges alone fewer =
    nodes_next (references_of (tree_of node)) count left next ranges
    (sym (ap (λ (l : List Node). all_references (trees_of l)) alone ∙ append-nil (references_of (tree_of node))))
    (omega (arith, fewer, ap (λ (l : List Node). all_visits (trees_of l)) alone))

-- a reference is listed, and some nodes come next
pub reference_listed : (r : Reference) (rest : List Reference) (count : ℕ) (left : List (Bor (List Node))) (next : Bor (List Node))
    (ranges more : List Corners) → rest ≡ all_references (trees_of next.now) → 1 + all_visits (trees_of next.now) < count
    → ((all : List Corners) → IsOnceEach all ranges → IsOnceEach (all ++ corners_of r ∷ []) more)
    → Lists (r ∷ rest) count left (left ++ next ∷ []) ranges more
reference_listed r rest count left next ranges more is fewer once = record {
  said = r ∷ [];
  added = next ∷ [];
  kept = refl;
  whole = ap (λ (l : List Reference). r ∷ l) is;
  fewer = omega (arith, fewer);
  listed = once;
}

-- what is listed of a node comes before the nodes beside it
pub before_others : (own : List Reference) (count : ℕ) (beside : List Node) (left middle next : List (Bor (List Node)))
    (ranges more : List Corners) → AreLeft beside left middle → Lists own count middle next ranges more
    → Lists (own ++ all_references (trees_of beside)) (1 + count + all_visits (trees_of beside)) left next ranges more
before_others own count beside left middle next ranges more others lists =
    let behind = all_references (trees_of beside) in
    record {
      said = lists.said;
      added = others.added ++ lists.added;
      kept = lists.kept ∙ (ap (λ (l : List (Bor (List Node))). l ++ lists.added) others.kept ∙ append_assoc left others.added lists.added);
      whole = ap (λ (l : List Reference). l ++ behind) lists.whole
          ∙ (append_assoc lists.said (references_left lists.added) behind
          ∙ ap (λ (l : List Reference). lists.said ++ l)
          (sym (left_joined others.added lists.added ∙ ap (λ (l : List Reference). references_left lists.added ++ l) others.whole)));
      fewer = omega (arith, lists.fewer, others.few, lists_joined others.added lists.added);
      listed = lists.listed;
    }

-- a leaf that is no reference
pub leaf_listed : (t u : Tree) (beside : Bor (List Node)) (left : List (Bor (List Node))) (ranges : List Corners) → t ≡ u
    → references_of u ≡ [] → Lists (references_of t ++ all_references (trees_of beside.now))
    (3 + visit_count t + all_visits (trees_of beside.now)) left (left ++ beside ∷ []) ranges ranges
leaf_listed t u beside left ranges is none =
    nodes_next _ _ left beside ranges
    (ap (λ (l : List Reference). l ++ all_references (trees_of beside.now)) (ap references_of is ∙ none)) (omega arith)

-- a left operand that is a reference, before the right one
pub one_read : (t : Tree) (r : Reference) (second : Node) (left : List (Bor (List Node))) (next : Bor (List Node)) (ranges more : List Corners)
    → t ≡ reference r → next.now ≡ second ∷ [] → ((all : List Corners) → IsOnceEach all ranges → IsOnceEach (all ++ corners_of r ∷ []) more)
    → Lists (references_of t ++ references_of (tree_of second)) (7 + visit_count t + visit_count (tree_of second)) left (left ++ next ∷ []) ranges more
one_read t r second left next ranges more is alone once =
    rw is (reference_listed r (references_of (tree_of second)) (8 + visit_count (tree_of second)) left next ranges more
    (sym (ap (λ (l : List Node). all_references (trees_of l)) alone ∙ append-nil (references_of (tree_of second))))
    (omega (arith, ap (λ (l : List Node). all_visits (trees_of l)) alone)) once)

-- the left operand of an operator, before the right one
pub operands_left : (lhs rhs : Node) (one two : Bor (List Node)) (left middle : List (Bor (List Node))) (ranges : List Corners)
    → one.now ≡ lhs ∷ [] → two.now ≡ rhs ∷ [] → middle ≡ left ++ two ∷ []
    → Lists (references_of (tree_of lhs) ++ references_of (tree_of rhs))
    (7 + visit_count (tree_of lhs) + visit_count (tree_of rhs)) left (middle ++ one ∷ []) ranges ranges
operands_left lhs rhs one two left middle ranges one_is two_is kept =
    let own : all_references (trees_of (rhs ∷ [])) ≡ references_of (tree_of rhs) = append-nil (references_of (tree_of rhs)) in
    let waits : AreLeft (rhs ∷ []) left middle = record {
      added = two ∷ [];
      kept = kept;
      whole = ap (λ (l : List Node). all_references (trees_of l)) two_is;
      few = omega (arith, ap (λ (l : List Node). all_visits (trees_of l)) two_is);
    } in
    let whole = before_others (references_of (tree_of lhs)) (4 + visit_count (tree_of lhs)) (rhs ∷ []) left middle (middle ++ one ∷ []) ranges ranges
    waits (one_next lhs (4 + visit_count (tree_of lhs)) middle one ranges one_is (omega arith)) in
    as_many _ (1 + (4 + visit_count (tree_of lhs)) + all_visits (trees_of (rhs ∷ []))) _ left (middle ++ one ∷ []) ranges ranges (omega arith)
    (subst (λ (l : List Reference). Lists (references_of (tree_of lhs) ++ l) (1 + (4 + visit_count (tree_of lhs)) + all_visits (trees_of (rhs ∷ [])))
    left (middle ++ one ∷ []) ranges ranges) own whole)

-- a reference beside other nodes
pub reference_beside : (t : Tree) (r : Reference) (beside : Bor (List Node)) (left : List (Bor (List Node))) (ranges more : List Corners)
    → t ≡ reference r → ((all : List Corners) → IsOnceEach all ranges → IsOnceEach (all ++ corners_of r ∷ []) more)
    → Lists (references_of t ++ all_references (trees_of beside.now)) (3 + visit_count t + all_visits (trees_of beside.now)) left (left
    ++ beside ∷ []) ranges more
reference_beside t r beside left ranges more is once =
    rw is (reference_listed r (all_references (trees_of beside.now)) (4 + all_visits (trees_of beside.now)) left beside ranges more refl (omega arith) once)

-- an operator, and a function, before other nodes: what is below them comes next
pub prefix_before : (t : Tree) (op : _) (operand : Node) (beside : List Node) (next : Bor (List Node)) (left middle : List (Bor (List Node)))
    (ranges : List Corners) → t ≡ prefix op (tree_of operand) → next.now ≡ operand ∷ [] → AreLeft beside left middle
    → Lists (references_of t ++ all_references (trees_of beside)) (3 + visit_count t + all_visits (trees_of beside)) left (middle ++ next ∷ []) ranges ranges
prefix_before t op operand beside next left middle ranges is alone others =
    rw is (as_many _ (1 + (4 + visit_count (tree_of operand)) + all_visits (trees_of beside)) _ left (middle ++ next ∷ []) ranges ranges (omega arith)
    (before_others (references_of (tree_of operand)) (4 + visit_count (tree_of operand)) beside left middle (middle ++ next ∷ []) ranges ranges others
    (one_next operand (4 + visit_count (tree_of operand)) middle next ranges alone (omega arith))))

pub binary_before : (t : Tree) (op : _) (lhs rhs : Node) (beside : List Node) (left middle next : List (Bor (List Node))) (ranges more : List Corners)
    → t ≡ binary op (tree_of lhs) (tree_of rhs) → AreLeft beside left middle
    → Lists (references_of (tree_of lhs) ++ references_of (tree_of rhs)) (7 + visit_count (tree_of lhs) + visit_count (tree_of rhs)) middle next ranges more
    → Lists (references_of t ++ all_references (trees_of beside)) (3 + visit_count t + all_visits (trees_of beside)) left next ranges more
binary_before t op lhs rhs beside left middle next ranges more is others lists =
    rw is (as_many _ (1 + (7 + visit_count (tree_of lhs) + visit_count (tree_of rhs)) + all_visits (trees_of beside)) _ left next ranges more (omega arith)
    (before_others _ (7 + visit_count (tree_of lhs) + visit_count (tree_of rhs)) beside left middle next ranges more others lists))

pub call_before : (t : Tree) (f : _) (ps : Nodes) (beside : List Node) (next : Bor (List Node)) (left middle : List (Bor (List Node)))
    (ranges : List Corners) → t ≡ call f (parameters_of ps) → trees_of next.now ≡ parameters_of ps → AreLeft beside left middle
    → Lists (references_of t ++ all_references (trees_of beside)) (3 + visit_count t + all_visits (trees_of beside)) left (middle ++ next ∷ []) ranges ranges
call_before t f ps beside next left middle ranges is same others =
    rw is (as_many _ (1 + (2 + all_visits (parameters_of ps)) + all_visits (trees_of beside)) _ left (middle ++ next ∷ []) ranges ranges (omega arith)
    (before_others (all_references (parameters_of ps)) (2 + all_visits (parameters_of ps)) beside left middle (middle ++ next ∷ []) ranges ranges others
    (nodes_next (all_references (parameters_of ps)) (2 + all_visits (parameters_of ps)) middle next ranges (ap all_references (sym same))
    (omega (arith, ap all_visits same)))))

-- some of the references of all nodes are listed, and the others are those of the nodes that come next and of what is left
pub record IsListing (all : List Reference) (left : List (Bor (List Node))) (nodes : List Node) (ranges : List Corners) : Type 0 where
  pub said : List Reference
  pub whole : all ≡ said ++ (all_references (trees_of nodes) ++ references_left left)
  pub listed : IsOnceEach (map corners_of said) ranges

-- a bound on the lists to come
abbrev pub lists_now : List (Bor (List Node)) → List Node → ℕ
lists_now left nodes = 1 + all_visits (trees_of nodes) + lists_left left

-- the listing of a whole tree
pub listing_starts : (node : Node) (nodes : List Node) (left : List (Bor (List Node))) → nodes ≡ node ∷ [] → left ≡ []
    → IsListing (references_of (tree_of node)) left nodes []
listing_starts node nodes left alone none = record {
  said = [];
  whole = sym (ap (λ (l : List Reference). all_references (trees_of nodes) ++ l) (ap references_left none)
      ∙ (append-nil (all_references (trees_of nodes))
      ∙ (ap (λ (l : List Node). all_references (trees_of l)) alone ∙ append-nil (references_of (tree_of node)))));
  listed = nothing;
}

-- what was left and what comes next, as one list
joined_left : (left : List (Bor (List Node))) (next : Bor (List Node))
    → references_left (left ++ next ∷ []) ≡ all_references (trees_of next.now) ++ references_left left
joined_left left next = left_joined left (next ∷ [])

-- the first of the nodes is visited
module _ (all : List Reference) (node : Node) (nodes beside : List Node) (left rest : List (Bor (List Node))) (next : Bor (List Node))
    (ranges more : List Corners) (is : nodes ≡ node ∷ beside)
    (lists : Lists (references_of (tree_of node) ++ all_references (trees_of beside))
    (3 + visit_count (tree_of node) + all_visits (trees_of beside)) left (rest ++ next ∷ []) ranges more) where
  pub listing_step : IsListing all left nodes ranges → IsListing all rest next.now more
  listing_step at =
      let behind : references_left lists.added ++ references_left left ≡ all_references (trees_of next.now) ++ references_left rest =
      sym (left_joined left lists.added) ∙ (ap references_left (sym lists.kept) ∙ joined_left rest next) in
      record {
        said = at.said ++ lists.said;
        whole = at.whole
            ∙ (ap (λ (l : List Reference). at.said ++ (l ++ references_left left))
            (ap (λ (l : List Node). all_references (trees_of l)) is ∙ lists.whole)
            ∙ (ap (λ (l : List Reference). at.said ++ l) (append_assoc lists.said (references_left lists.added) (references_left left))
            ∙ (sym (append_assoc at.said lists.said (references_left lists.added ++ references_left left))
            ∙ ap (λ (l : List Reference). (at.said ++ lists.said) ++ l) behind)));
        listed = subst (λ (l : List Corners). IsOnceEach l more) (sym (map_joined at.said lists.said)) (lists.listed (map corners_of at.said) at.listed);
      }

  pub step_fewer : lists_now rest next.now < lists_now left nodes
  step_fewer =
      omega (
        arith,
        ap lists_left lists.kept,
        lists_joined left lists.added,
        lists_joined rest (next ∷ []),
        lists.fewer,
        ap (λ (l : List Node). all_visits (trees_of l)) is,
      )

no_references : (l : List Node) → length l ≡ 0 → all_references (trees_of l) ≡ []
no_references [] e = refl
no_references (x ∷ xs) e = absurd (omega (arith, e))

-- where no nodes come next, those that were left last do
pub listing_goes : (all : List Reference) (old left : List (Bor (List Node))) (nodes : List Node) (next : Bor (List Node)) (ranges : List Corners)
    → old ≡ left ++ next ∷ [] → length nodes ≡ 0 → IsListing all old nodes ranges → IsListing all left next.now ranges
listing_goes all old left nodes next ranges is none at = record {
  said = at.said;
  whole = at.whole ∙ ap (λ (l : List Reference). at.said ++ l)
      (ap (λ (l : List Reference). l ++ references_left old) (no_references nodes none) ∙ (ap references_left is ∙ joined_left left next));
  listed = at.listed;
}

pub goes_fewer : (old left : List (Bor (List Node))) (nodes : List Node) (next : Bor (List Node)) → old ≡ left ++ next ∷ []
    → lists_now left next.now < lists_now old nodes
goes_fewer old left nodes next is = omega (arith, ap lists_left is, lists_joined left (next ∷ []))

-- and where none were left, all are listed
pub listing_ends : (all : List Reference) (left : List (Bor (List Node))) (nodes : List Node) (ranges : List Corners) → length left ≡ 0
    → length nodes ≡ 0 → IsListing all left nodes ranges → IsOnceEach (map corners_of all) ranges
listing_ends all [] nodes ranges none no_nodes at =
    let whole : all ≡ at.said = at.whole ∙ (ap (λ (l : List Reference). at.said ++ (l ++ [])) (no_references nodes no_nodes) ∙ append-nil at.said) in
    subst (λ (l : List Reference). IsOnceEach (map corners_of l) ranges) (sym whole) at.listed
listing_ends all (x ∷ xs) nodes ranges none no_nodes at = absurd (omega (arith, none))
