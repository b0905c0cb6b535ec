-- Which keys have an answer, and what is added for one key after another.
use Rattle.std.proofs.Common.{◌≡◌, ◌≢◌, ◌↔◌, ◌⊎◌, inl, inr, ℕ, zero, suc, ◌+◌, ◌<◌, List, [], ◌∷◌, ◌++◌, length, get_or}
use Rattle.std.proofs.Common.{take, Option, Some, None, Contains, refl, sym, ◌∙◌, ap, subst, arith}
use Rattle.std.proofs.lemmas.List.{append-nil, append_assoc, get_or-map, length-map, map-append, take_more}
use Rattle.std.proofs.lemmas.Option.{same_Some}
use Rattle.std.proofs.lemmas.List.Elements.{Contains-append_cases, Contains-append_left, Contains-push, Contains-push_cases, Contains-get_or}
use Rattle.std.proofs.lemmas.List.Quantifiers.{all_pairs_push}
use Rattle.std.specs.List.{AllPairs}
use Rattle.sheet_refs.specs.Cells.{Position, Corners, IsIn}
use Rattle.sheet_refs.specs.Rectangles.{Overlap, IsAmong}
use Rattle.graph_walk.specs.Graphs.{Keeps}
use Rattle.edge_patterns.specs.Edges.{EdgeValue, IsEdge, IsPair}
use Rattle.edge_patterns.specs.Queries.{Covers, IsDirect, IsSpreadTo, IsReferred, IsLedTo}
use Rattle.edge_patterns.specs.Queries.IsSpreadTo.{at_once, onward}
use Rattle.edge_patterns.specs.Queries.IsLedTo.{at_once as led_at_once, onward as led_onward}
use Rattle.edge_patterns.proofs.RectangleLemmas.{rectangle_has, run_asked}
use Rattle.edge_patterns.specs.declared.edge.Pattern.{Pattern}
use Rattle.edge_patterns.specs.declared.edge.Pattern.TheVariants.{Single, Rr, Rf, Fr, Ff, Chain}
use Rattle.range_index.specs.Entries.{Entry, AddsOverlapping}
use Rattle.taco_graph.specs.Filing.{Rectangles}
use Rattle.taco_graph.specs.Stores.{edge_at, edges_of, AreEdges, AreStored, EdgesDiffer, NamesOverlapping, IsMetAt, NamesMet}
use Rattle.taco_graph.specs.Answers.{IsMeant, ByPattern, IsMeantAt, IsAnswered, EdgeAnswer, edge_answer, answer_ranges}
use Rattle.taco_graph.specs.Answers.{HasAnswer, IsAnswerAt, NamesAnswering, AddsAnswersOf, AddsAnswers, AddsOneEach}
use Rattle.taco_graph.specs.declared.answers.Question.{Question}
use Rattle.taco_graph.specs.declared.answers.Question.TheVariants.{Dependents, Precedents, Ahead, Behind}
use Rattle.slab.proofs.SlabLemmas.{Contains-cons}
use Rattle.taco_graph.proofs.GraphLemmas.{first_pair, kept_listed, listed_kept}

-- ---- an edge with an answer overlaps the query

direct_overlaps : (edge : EdgeValue) (query : Corners) (cell : Position) → IsEdge edge → IsDirect edge query cell → Overlap edge.prec query
direct_overlaps edge query cell is direct =
    let (shared, both) = direct.overlaps in
    (shared, record { first = (rectangle_has edge is shared).1 (cell, direct.range, direct.pair, both.first); second = both.second })

spread_overlaps : (edge : EdgeValue) (query : Corners) (cell : Position) → IsEdge edge → IsSpreadTo edge query cell → Overlap edge.prec query
spread_overlaps edge query _ is (at_once cell direct) = direct_overlaps edge query cell is direct
spread_overlaps edge query _ is (onward from cell range before pair inside) = spread_overlaps edge query from is before

referred_overlaps : (edge : EdgeValue) (query : Corners) (cell : Position) → IsEdge edge → IsReferred edge query cell → Overlap edge.dep query
referred_overlaps edge query cell is referred =
    let (shared, both) = (run_asked edge is query).0 (cell, referred) in
    (shared, record { first = both.second; second = both.first })

led_overlaps : (edge : EdgeValue) (query : Corners) (cell : Position) → IsEdge edge → IsLedTo edge query cell → Overlap edge.dep query
led_overlaps edge query _ is (led_at_once cell referred) = referred_overlaps edge query cell is referred
led_overlaps edge query _ is (led_onward from cell range before pair inside) = led_overlaps edge query from is before

ahead_overlaps : (edge : EdgeValue) (query : Corners) (cell : Position) → IsEdge edge → IsMeant Ahead edge query cell → Overlap edge.prec query
ahead_overlaps edge query cell is (inl (chain, spread)) = spread_overlaps edge query cell is spread
ahead_overlaps edge query cell is (inr (other, direct)) = direct_overlaps edge query cell is direct

behind_overlaps : (edge : EdgeValue) (query : Corners) (cell : Position) → IsEdge edge → IsMeant Behind edge query cell → Overlap edge.dep query
behind_overlaps edge query cell is (inl (chain, led)) = led_overlaps edge query cell is led
behind_overlaps edge query cell is (inr (other, referred)) = referred_overlaps edge query cell is referred

-- ---- so the index names it

module _ (slots : List (Option EdgeValue)) (query : Corners) (keys : List ℕ) (edges : AreEdges slots) where
  edge_is : (key : ℕ) (edge : EdgeValue) → edge_at slots key ≡ Some edge → IsEdge edge
  edge_is key edge here = edges edge (record { key = key; here = here })

  met : (key : ℕ) (edge : EdgeValue) → edge_at slots key ≡ Some edge → Overlap edge.prec query → IsMetAt slots query key
  met key edge here overlap = record { edge = edge; here = here; overlap = overlap }

  pub names_dependents : NamesMet slots query keys → NamesAnswering slots Dependents query keys
  names_dependents named key cell at =
      named key (met key at.edge at.here (direct_overlaps at.edge query cell (edge_is key at.edge at.here) at.meant))

  pub names_ahead : NamesMet slots query keys → NamesAnswering slots Ahead query keys
  names_ahead named key cell at =
      named key (met key at.edge at.here (ahead_overlaps at.edge query cell (edge_is key at.edge at.here) at.meant))

  pub names_precedents : NamesOverlapping slots query keys → NamesAnswering slots Precedents query keys
  names_precedents named key cell at =
      named key at.edge at.here (referred_overlaps at.edge query cell (edge_is key at.edge at.here) at.meant)

  pub names_behind : NamesOverlapping slots query keys → NamesAnswering slots Behind query keys
  names_behind named key cell at =
      named key at.edge at.here (behind_overlaps at.edge query cell (edge_is key at.edge at.here) at.meant)

-- ---- and it names each key once

pub all_once : {entries : List Entry} {query : Corners} {old keys : List ℕ} → AddsOverlapping entries query old keys → old ≡ [] → AllPairs (λ a b. a ≢ b) keys
all_once {entries} {query} {old} {keys} adds none =
    let all : keys ≡ adds.added = adds.whole ∙ ap (λ (l : List ℕ). l ++ adds.added) none in
    subst (λ (l : List ℕ). AllPairs (λ a b. a ≢ b) l) (sym all) adds.once

-- ---- edges under different keys differ, since each has a pair that no other has

pub edges_differ : (slots : List (Option EdgeValue)) (runs : List Entry) (rectangles : Rectangles) → AreStored slots runs rectangles → EdgesDiffer slots
edges_differ slots runs rectangles stored key other a b differ here there same =
    let is = stored.edges a (record { key = key; here = here }) in
    let (range, pair) = first_pair a is in
    stored.apart key other a b differ here there range a.dep.head pair (subst (λ (e : EdgeValue). IsPair e range a.dep.head) same pair)

-- ---- the ranges of some edges

range_listed : (answers : List EdgeAnswer) (answer : EdgeAnswer) → Contains answers answer → Contains (answer_ranges answers) answer.range
range_listed answers answer (k, below, is) = (
  k,
  omega (arith, below, length-map answers (λ (a : EdgeAnswer). a.range)),
  get_or-map (λ (a : EdgeAnswer). a.range) answers k answer answer.range below ∙ ap (λ (a : EdgeAnswer). a.range) is,
)

answer_listed : (answers : List EdgeAnswer) (range : Corners) → Contains (answer_ranges answers) range
    → (answer : EdgeAnswer) × Contains answers answer × (answer.range ≡ range)
answer_listed [] range listed = absurd (omega (arith, listed.1))
answer_listed (first ∷ answers) range (zero, below, is) = (first, (0, omega arith, refl), is)
answer_listed (first ∷ answers) range (suc k, below, is) =
    let (answer, there, same) = answer_listed answers range (k, omega (arith, below), is) in
    (answer, Contains-cons first answer answers there, same)

still_answered : (answers : List EdgeAnswer) (one : EdgeAnswer) (edge : EdgeValue) → HasAnswer answers edge → HasAnswer (answers ++ one ∷ []) edge
still_answered answers one edge has = record { range = has.range; listed = Contains-append_left answers (one ∷ []) (edge_answer edge has.range) has.listed }

-- ---- one key after another

module _ (slots : List (Option EdgeValue)) (question : Question) (query : Corners) where
  pub adds_none : (old : List Corners) → AddsAnswersOf slots question query [] old old
  adds_none old = record {
    answers = [];
    whole = sym (append-nil old);
    once = λ i j d before within. absurd (omega (arith, within));
    exact = λ answer listed. absurd (omega (arith, listed.1));
    all = λ key edge cell listed here meant. absurd (omega (arith, listed.1));
  }

  only_key : (last key : ℕ) → Contains (last ∷ []) key → key ≡ last
  only_key last key (zero, below, is) = sym is
  only_key last key (suc k, below, is) = absurd (omega arith)

  pub adds_silent : (keys : List ℕ) (key : ℕ) (old new : List Corners)
      → ((cell : Position) → ¬ IsMeantAt slots question query key cell)
      → AddsAnswersOf slots question query keys old new → AddsAnswersOf slots question query (keys ++ key ∷ []) old new
  adds_silent keys key old new silent adds = record {
    answers = adds.answers;
    whole = adds.whole;
    once = adds.once;
    exact = λ answer listed. let (k, among, at) = adds.exact answer listed in (k, Contains-append_left keys (key ∷ []) k among, at);
    all = λ k edge cell listed here meant. elim (Contains-append_cases keys (key ∷ []) k listed) [
      | inl before ↦ adds.all k edge cell before here meant
      | inr one ↦ absurd (silent cell (record { edge = edge; here = ap (edge_at slots) (sym (only_key key k one)) ∙ here; meant = meant }))
    ];
  }

  pub adds_range : (keys : List ℕ) (key : ℕ) (old new newer : List Corners) (edge : EdgeValue) (range : Corners)
      → newer ≡ new ++ range ∷ [] → IsAnswerAt slots question query key (edge_answer edge range) → ¬ Contains keys key
      → EdgesDiffer slots → AddsAnswersOf slots question query keys old new → AddsAnswersOf slots question query (keys
      ++ key ∷ []) old newer
  adds_range keys key old new newer edge range pushed is absent differ adds = record {
    answers = adds.answers ++ one ∷ [];
    whole =
        pushed ∙ (ap (λ (n : List Corners). n ++ range ∷ []) adds.whole
        ∙ (append_assoc old (answer_ranges adds.answers) (range ∷ [])
        ∙ ap (λ (n : List Corners). old
        ++ n) (sym (map-append (λ (a : EdgeAnswer). a.range) adds.answers (one ∷ [])))));
    once = all_pairs_push (λ (a b : EdgeAnswer). a.edge ≢ b.edge) adds.answers one adds.once
        (λ k d within. other (get_or adds.answers k d) (Contains-get_or adds.answers k d within));
    exact = λ answer listed. elim (Contains-push_cases adds.answers one answer listed) [
      | inl before ↦ let (k, among, at) = adds.exact answer before in (k, Contains-append_left keys (key ∷ []) k among, at)
      | inr same ↦ (key, Contains-push keys key, subst (IsAnswerAt slots question query key) same is)
    ];
    all = λ k e cell listed here meant. elim (Contains-append_cases keys (key ∷ []) k listed) [
      | inl before ↦ still_answered adds.answers one e (adds.all k e cell before here meant)
      | inr last ↦
          subst (HasAnswer (adds.answers ++ one ∷ [])) (same_Some edge e (sym is.here
          ∙ (ap (edge_at slots) (sym (only_key key k last)) ∙ here))) (record {
            range = range;
            listed = Contains-push adds.answers one;
          })
    ];
  }
    where
      one : EdgeAnswer
      one = edge_answer edge range

      other : (answer : EdgeAnswer) → Contains adds.answers answer → answer.edge ≢ edge
      other answer listed =
          let (k, among, at) = adds.exact answer listed in
          differ k key answer.edge edge (λ same. absent (subst (λ (i : ℕ). Contains keys i) same among)) at.here is.here

  pub adds_all : (keys : List ℕ) (old new : List Corners) → NamesAnswering slots question query keys
      → AddsAnswersOf slots question query keys old new → AddsAnswers slots question query old new
  adds_all keys old new named adds = record { added = answer_ranges adds.answers; whole = adds.whole; all = all; only = only }
    where
      all : (cell : Position) → IsAnswered slots question query cell → IsAmong (answer_ranges adds.answers) cell
      all cell (key, at) =
          let has = adds.all key at.edge cell (named key cell at) at.here at.meant in
          let (k, among, is) = adds.exact (edge_answer at.edge has.range) has.listed in
          record { range = has.range; listed = range_listed adds.answers (edge_answer at.edge has.range) has.listed; inside = (is.exact cell).1 at.meant }

      only : (cell : Position) → IsAmong (answer_ranges adds.answers) cell → IsAnswered slots question query cell
      only cell among =
          let (answer, listed, same) = answer_listed adds.answers among.range among.listed in
          let (key, there, is) = adds.exact answer listed in
          (key, record { edge = answer.edge; here = is.here; meant = (is.exact cell).0 (subst (λ (r : Corners). IsIn cell r) (sym same) among.inside) })

  pub adds_one_each : (keys : List ℕ) (old new : List Corners) → NamesAnswering slots question query keys
      → AddsAnswersOf slots question query keys old new
      → AddsOneEach (edges_of slots) (λ edge. IsMeant question edge query) old new
  adds_one_each keys old new named adds = record {
    answers = adds.answers;
    whole = adds.whole;
    once = adds.once;
    exact = λ answer listed. let (key, among, is) = adds.exact answer listed in record { listed = kept_listed slots key answer.edge is.here; exact = is.exact };
    all = λ edge cell listed meant.
        let kept = listed_kept slots edge listed in
        adds.all kept.key edge cell (named kept.key cell (record { edge = edge; here = kept.here; meant = meant })) kept.here meant;
  }

  pub adds_keep : (keys : List ℕ) (old new : List Corners) → AddsAnswersOf slots question query keys old new → Keeps old new
  adds_keep keys old new adds = record { added = answer_ranges adds.answers; whole = adds.whole }

pub take_next : (keys : List ℕ) (place key : ℕ) → place < length keys → key ≡ get_or keys place key → take (place + 1) keys ≡ take place keys ++ key ∷ []
take_next keys place key within here = take_more keys place key within ∙ ap (λ (k : ℕ). take place keys ++ k ∷ []) (sym here)

-- ---- a chain answers the one set of cells, and every other edge the other

chain_or : (pattern : Pattern) → (pattern ≡ Chain) ⊎ (pattern ≢ Chain)
chain_or Single = inr (λ is. absurd (cc))
chain_or Rr = inr (λ is. absurd (cc))
chain_or Rf = inr (λ is. absurd (cc))
chain_or Fr = inr (λ is. absurd (cc))
chain_or Ff = inr (λ is. absurd (cc))
chain_or Chain = inl refl

pub covers_by_pattern : (edge : EdgeValue) (OfChain OfOthers : Position → Type 0) (result : Option Corners)
    → ((edge.pattern ≡ Chain) → Covers result OfChain) → ((edge.pattern ≢ Chain) → Covers result OfOthers)
    → Covers result (ByPattern edge OfChain OfOthers)
covers_by_pattern edge OfChain OfOthers result of_chain of_others = elim (chain_or edge.pattern) [
  | inl chain ↦
      covers_same result OfChain (λ cell. (
        λ is. inl (chain, is),
        λ by. elim by [
          | inl one ↦ one.1
          | inr other ↦
              absurd (other.0 chain)
        ],
      )) (of_chain chain)
  | inr other ↦
      covers_same result OfOthers (λ cell. (
        λ is. inr (other, is),
        λ by. elim by [
          | inl one ↦ absurd (other one.0)
          | inr two ↦ two.1
        ],
      )) (of_others other)
]
  where
    covers_same : (r : Option Corners) (Cells : Position → Type 0)
        → ((cell : Position) → Cells cell ↔ ByPattern edge OfChain OfOthers cell) → Covers r Cells
        → Covers r (ByPattern edge OfChain OfOthers)
    covers_same None Cells same none = λ cell by. none cell ((same cell).1 by)
    covers_same (Some range) Cells same exact = λ cell. (λ inside. (same cell).0 ((exact cell).0 inside), λ by. (exact cell).1 ((same cell).1 by))
