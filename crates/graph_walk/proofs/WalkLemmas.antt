-- A walk, one range at a time: what it has reached, and that it ends with all that is.
use Rattle.std.proofs.Common.{◌≡◌, ◌+◌, ◌<◌, ◌↔◌, ◌⊎◌, inl, inr, List, [], ◌∷◌, ◌++◌, length, refl, sym, ◌∙◌, ap, subst, arith, length-append}
use Rattle.sheet_refs.specs.Cells.{Position, Corners, IsIn, span_of}
use Rattle.sheet_refs.specs.Rectangles.{IsAmong}
use Rattle.sheet_refs.proofs.ColumnLemmas.{none_among}
use Rattle.sheet_refs.proofs.Grid.{same_position}
use Rattle.sheet_refs.proofs.Tiles.{among_append, among_one}
use Rattle.graph_walk.specs.Gathers.{absent, Gathers}
use Rattle.graph_walk.specs.Graphs.{Pair, Step, Back, Adds}
use Rattle.graph_walk.specs.Paths.{IsReached, LeadsTo, back}
use Rattle.graph_walk.specs.Walks.{IsNext, IsBeyond, IsWalking}
use Rattle.graph_walk.proofs.GatherLemmas.{among_next}
use Rattle.graph_walk.proofs.PathLemmas.{reached_on, reached_start, reached_within, path_join, path_back}

module _ (step : Position → Position → Type 0) (starts : List Corners) where
  -- a walk begins with its starts, all of which wait
  pub walking_from : (set waiting : List Corners) → Gathers [] set [] waiting (IsAmong starts) → IsWalking step starts set waiting
  walking_from set waiting gathered = record {
    sound = λ cell among. reached_start step (IsAmong starts) cell (gathered.only cell (in_added cell among));
    begun = gathered.all;
    waits = λ cell among. (gathered.gained cell).1 (inr (subst (λ (ranges : List Corners). IsAmong ranges cell) gathered.waits among));
    done = λ from to among one. inr (subst (λ (ranges : List Corners). IsAmong ranges from) (sym gathered.waits) (in_added from among));
  }
    where
      in_added : (cell : Position) → IsAmong set cell → IsAmong gathered.added cell
      in_added cell among = elim ((gathered.gained cell).0 among) [ inl none ↦ absurd (none_among cell none) | inr added ↦ added ]

  -- one range is taken from those that wait, and what was found from it gathers
  pub walking_on : (set new waiting rest later found answer : List Corners) (range : Corners) → IsWalking step starts set waiting → waiting ≡ rest ++ range ∷ []
      → Adds found answer (IsNext step range) (IsBeyond step range) → found ≡ [] → Gathers set new rest later (IsAmong answer) → IsWalking step starts new later
  walking_on set new waiting rest later found answer range walking popped adds empty gathered =
      record { sound = sound; begun = begun; waits = waits; done = done }
    where
      answered : answer ≡ adds.added
      answered = adds.whole ∙ ap (λ (f : List Corners). f ++ adds.added) empty

      in_waiting : (cell : Position) → IsAmong rest cell ⊎ IsIn cell range → IsAmong waiting cell
      in_waiting cell found_in = subst (λ (w : List Corners). IsAmong w cell) (sym popped) ((among_next rest range cell).1 found_in)

      sound_added : (cell : Position) → IsAmong gathered.added cell → IsReached step (IsAmong starts) cell
      sound_added cell added =
          let leads = adds.only cell (subst (λ (a : List Corners). IsAmong a cell) answered (gathered.only cell added)) in
          reached_on step (IsAmong starts) leads.0 cell (walking.sound leads.0 (walking.waits leads.0 (in_waiting leads.0 (inr leads.1)))) leads.2

      sound : (cell : Position) → IsAmong new cell → IsReached step (IsAmong starts) cell
      sound cell among = elim ((gathered.gained cell).0 among) [ inl before ↦ walking.sound cell before | inr added ↦ sound_added cell added ]

      kept : (cell : Position) → IsAmong set cell → IsAmong new cell
      kept cell among = (gathered.gained cell).1 (inl among)

      begun : (cell : Position) → IsAmong starts cell → IsAmong new cell
      begun cell start = kept cell (walking.begun cell start)

      waits : (cell : Position) → IsAmong later cell → IsAmong new cell
      waits cell among = elim ((among_append rest gathered.added cell).0 (subst (λ (w : List Corners). IsAmong w cell) gathered.waits among)) [
        | inl in_rest ↦ kept cell (walking.waits cell (in_waiting cell (inl in_rest)))
        | inr added ↦ (gathered.gained cell).1 (inr added)
      ]

      waits_on : (cell : Position) → IsAmong rest cell ⊎ IsAmong gathered.added cell → IsAmong later cell
      waits_on cell among = subst (λ (w : List Corners). IsAmong w cell) (sym gathered.waits) ((among_append rest gathered.added cell).1 among)

      next_there : (from to : Position) → IsIn from range → step from to → IsAmong new to
      next_there from to inside one = gathered.all to (subst (λ (a : List Corners). IsAmong a to) (sym answered) (adds.all to (from, inside, one)))

      done : (from to : Position) → IsAmong new from → step from to → IsAmong new to ⊎ IsAmong later from
      done from to among one = elim ((gathered.gained from).0 among) [
        | inr added ↦ inr (waits_on from (inr added))
        | inl before ↦ elim (walking.done from to before one) [
          | inl there ↦ inl (kept to there)
          | inr waiting_from ↦ elim ((among_next rest range from).0 (subst (λ (w : List Corners). IsAmong w from) popped waiting_from)) [
            | inl in_rest ↦ inr (waits_on from (inl in_rest))
            | inr inside ↦ inl (next_there from to inside one)
          ]
        ]
      ]

  -- each turn leaves fewer cells and ranges to come
  pub walking_falls : (set new waiting rest later : List Corners) (range : Corners) (cells : Position → Type 0)
      → waiting ≡ rest ++ range ∷ [] → Gathers set new rest later cells
      → absent new + length later < absent set + length waiting
  walking_falls set new waiting rest later range cells popped gathered =
      let before : length waiting ≡ length rest + 1 = ap length popped ∙ length-append rest (range ∷ []) in
      let after : length later ≡ length rest + length gathered.added = ap length gathered.waits ∙ length-append rest gathered.added in
      omega (arith, before, after, gathered.fewer)

  -- a walk with nothing waiting has all that is reached
  pub walking_done : (set waiting : List Corners) → IsWalking step starts set waiting → waiting ≡ [] → (cell : Position)
      → IsAmong set cell ↔ IsReached step (IsAmong starts) cell
  walking_done set waiting walking empty cell = (
    walking.sound cell,
    λ reached. reached_within step (IsAmong starts) (IsAmong set) walking.begun closed cell
        reached,
  )
    where
      closed : (from to : Position) → step from to → IsAmong set from → IsAmong set to
      closed from to one among = elim (walking.done from to among one) [
        | inl there ↦ there
        | inr still ↦ absurd (none_among from (subst (λ (w : List Corners). IsAmong w from) empty still))
      ]

-- ---- what the walks of the public calls answer

-- from one range
pub reached_range : (step : Position → Position → Type 0) (range : Corners) (cell : Position)
    → IsReached step (IsAmong (range ∷ [])) cell ↔ IsReached step (λ from. IsIn from range) cell
reached_range step range cell = (
  λ reached. record { from = reached.from; starts = among_one range reached.from reached.starts; cells = reached.cells; path = reached.path },
  λ reached. record {
    from = reached.from;
    starts = record {
      range = range;
      listed = (0, omega arith, refl);
      inside = reached.starts;
    };
    cells = reached.cells;
    path = reached.path;
  },
)

-- by the steps taken back, it reaches the cells from which the range is reached
pub reached_back : (pairs : List Pair) (range : Corners) (cell : Position) → IsReached (back (Step pairs)) (IsAmong (range ∷ [])) cell ↔ Back pairs range cell
reached_back pairs range cell = (to, from)
  where
    to : IsReached (back (Step pairs)) (IsAmong (range ∷ [])) cell → Back pairs range cell
    to reached =
        let turned = path_back (back (Step pairs)) reached.from cell reached.cells reached.path in
        record { to = reached.from; ends = among_one range reached.from reached.starts; cells = turned.cells; path = turned.path }

    from : Back pairs range cell → IsReached (back (Step pairs)) (IsAmong (range ∷ [])) cell
    from reached =
        let turned = path_back (Step pairs) cell reached.to reached.cells reached.path in
        record {
          from = reached.to;
          starts = record {
            range = range;
            listed = (0, omega arith, refl);
            inside = reached.ends;
          };
          cells = turned.cells;
          path = turned.path;
        }

-- from what lies ahead of a cell, it reaches the cell again exactly where the cell is on a cycle
pub reached_again : (step : Position → Position → Type 0) (cell : Position) (range : Corners)
    (old answer : List Corners) → range ≡ span_of cell cell → old ≡ []
    → Adds old answer (IsNext step range) (IsBeyond step range)
    → IsReached step (IsAmong answer) cell ↔ LeadsTo step cell cell
reached_again step cell range old answer one empty adds = (to, from)
  where
    answered : answer ≡ adds.added
    answered = adds.whole ∙ ap (λ (f : List Corners). f ++ adds.added) empty

    at_cell : (from : Position) → IsIn from range → from ≡ cell
    at_cell from inside =
        let here : IsIn from (span_of cell cell) = subst (λ (r : Corners). IsIn from r) one inside in
        same_position (omega (arith, here.row_from, here.row_to)) (omega (arith, here.col_from, here.col_to))

    in_range : IsIn cell range
    in_range = subst (λ (r : Corners). IsIn cell r) (sym one) (record {
      row_from = omega arith;
      row_to = omega arith;
      col_from = omega arith;
      col_to = omega arith;
    })

    to : IsReached step (IsAmong answer) cell → LeadsTo step cell cell
    to reached =
        let leads = adds.only reached.from (subst (λ (a : List Corners). IsAmong a reached.from) answered reached.starts) in
        let first : LeadsTo step cell reached.from = subst (λ (a : Position). LeadsTo step a reached.from) (at_cell leads.0 leads.1) leads.2 in
        record {
          next = first.next;
          first = first.first;
          cells = first.cells ++ reached.cells;
          path = path_join step first.next reached.from cell first.cells reached.cells first.path reached.path;
        }

    from : LeadsTo step cell cell → IsReached step (IsAmong answer) cell
    from leads = record {
      from = leads.next;
      starts = subst (λ (a : List Corners). IsAmong a leads.next) (sym answered) (adds.all leads.next (cell, in_range, leads.first));
      cells = leads.cells;
      path = leads.path;
    }
