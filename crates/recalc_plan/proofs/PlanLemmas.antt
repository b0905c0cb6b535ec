-- How a plan goes on from level to level.
use Rattle.std.proofs.Common.{◌≡◌, ◌≢◌, ◌⊎◌, inl, inr, ℕ, suc, ◌<◌, List, [], ◌∷◌, ◌++◌, length, arith, refl, sym, ap, subst, ◌∙◌}
use Rattle.std.specs.List.{AllPairs, Contains}
use Rattle.std.specs.Prelude.{◌↔◌}
use Rattle.std.proofs.lemmas.List.{length-append}
use Rattle.std.proofs.lemmas.List.Elements.{All-push}
use Rattle.sheet_refs.specs.Cells.{Position}
use Rattle.graph_walk.specs.Graphs.{Pair, Step}
use Rattle.graph_walk.specs.Paths.{back}
use Rattle.recalc_plan.specs.Opens.{AreFirstWaiters, AreOpenedFor, IsOpen, Opens, TakesOut, WaitsAgain, WaitsOn, Wakes}
use Rattle.recalc_plan.specs.Planning.{FollowsLast, IsPlanning, IsWaiter}
use Rattle.recalc_plan.specs.Plans.{AreLevels, InLevel, IsCircular, IsPlan, StaleStep}
use Rattle.recalc_plan.specs.declared.waiter.Waiter.{Waiter}
use Rattle.recalc_plan.proofs.CycleLemmas.{all_lead, not_circular, one_step}
use Rattle.recalc_plan.proofs.ListLemmas.{at_append, at_last, at_pushed, at_within, nothing_listed}
use Rattle.recalc_plan.proofs.OpenLemmas.{input_open, open_named}

-- ---- one level more

module _ (levels : List (List Position)) (level : List Position) where
  abbrev More : List (List Position)
  More = levels ++ level ∷ []

  stood_in : (number : ℕ) (cell : Position) → InLevel levels number cell → InLevel More number cell
  stood_in number cell here = record { level = here.level; at = at_append levels (level ∷ []) number here.level here.at; listed = here.listed }

  in_last : (cell : Position) → Contains level cell → InLevel More (length levels) cell
  in_last cell listed = record { level = level; at = at_last levels level; listed = listed }

  in_more : (number : ℕ) (cell : Position) → InLevel More number cell → InLevel levels number cell ⊎ ((number ≡ length levels) × Contains level cell)
  in_more number cell here = elim (at_pushed levels level number here.level here.at) [
    | inl before ↦ inl (record { level = here.level; at = before; listed = here.listed })
    | inr last ↦ inr (last.0, subst (λ (l : List Position). Contains l cell) (sym last.1) here.listed)
  ]

  one_longer : length More ≡ suc (length levels)
  one_longer = length-append levels (level ∷ []) ∙ (omega arith)

in_within : (levels : List (List Position)) (number : ℕ) (cell : Position) → InLevel levels number cell → number < length levels
in_within levels number cell here = at_within levels number here.level here.at

-- ---- waiters that look on

module _ (pairs : List Pair) (stale : List Position) where
  step_to : (from a b : Position) → a ≡ b → Step pairs from a → Step pairs from b
  step_to from a b same step = subst (λ (c : Position). Step pairs from c) same step

  pub looked_on : (old mid new : Opens) (waiter next : Waiter) (input : Position) → IsWaiter pairs stale old waiter
      → ((cell : Position) → IsOpen new cell → IsOpen mid cell)
      → ((cell : Position) → IsOpen mid cell → IsOpen old cell) → (again : WaitsAgain mid new waiter input next)
      → IsWaiter pairs stale new next × Step pairs input next.cell
  looked_on old mid new waiter next input valid to_mid to_old again = (
    record {
      of_stale = subst (Contains stale) (sym again.looked.cell_is) valid.of_stale;
      sound = λ cell left. step_to cell waiter.cell next.cell (sym again.looked.cell_is) (valid.sound cell (again.looked.less cell left));
      all =
          λ cell there step. again.looked.enough cell (to_mid cell there)
          (valid.all cell (to_old cell (to_mid cell there)) (step_to cell next.cell waiter.cell again.looked.cell_is
          step));
    },
    step_to input waiter.cell next.cell (sym again.looked.cell_is) (valid.sound input again.found),
  )

  -- ---- from level to level

  module _ (levels : List (List Position)) (old mid : Opens) (ready level : List Position) (woken : List Waiter)
      (state : IsPlanning pairs stale levels old ready) (takes : TakesOut old mid ready level woken) where
    was_open : (cell : Position) → IsOpen mid cell → IsOpen old cell
    was_open cell there = (takes.left cell there).0

    -- what woken waiters knew
    pub knew : (waiter : Waiter) → Contains woken waiter → (input : Position) × Contains level input
        × IsWaiter pairs stale old waiter × Step pairs input waiter.cell
    knew waiter there = let waited = takes.waited waiter there in let known = state.waiters waited.0 waiter waited.2 in (waited.0, waited.1, known.0, known.1)

    of_level : (cell : Position) → Contains level cell → Contains stale cell
    of_level cell listed = state.of_stale cell (takes.taken cell listed).0

    ready_level : (cell : Position) → Contains level cell → ((from : Position) → Step pairs from cell → ¬ IsOpen old from) × FollowsLast pairs stale levels cell
    ready_level cell listed = state.free cell (takes.taken cell listed).1

    not_both : (number : ℕ) (cell : Position) → InLevel levels number cell → Contains level cell → ⊥
    not_both number cell here listed = state.apart number cell here (takes.taken cell listed).0

    earlier : (number : ℕ) (from to : Position) → InLevel (More levels level) number to → StaleStep pairs stale from to
        → (before : ℕ) × (before < number) × InLevel (More levels level) before from
    earlier number from to here step = elim (in_more levels level number to here) [
      | inl stood ↦ let known = state.sorted.earlier number from to stood step in (known.0, known.1, stood_in levels level known.0 from known.2)
      | inr last ↦ elim (state.parts from step.before) [
        | inl in_level ↦ (in_level.0, omega (arith, in_within levels in_level.0 from in_level.1, last.0), stood_in levels level in_level.0 from in_level.1)
        | inr there ↦ absurd ((ready_level to last.1).0 from step.step there)
      ]
    ]

    least : (number : ℕ) (to : Position) → InLevel (More levels level) (suc number) to → (from : Position)
        × StaleStep pairs stale from to × InLevel (More levels level) number from
    least number to here = elim (in_more levels level (suc number) to here) [
      | inl stood ↦ let known = state.sorted.least number to stood in (known.0, known.1, stood_in levels level number known.0 known.2)
      | inr last ↦ elim ((ready_level to last.1).1) [
        | inl none ↦ absurd (omega (arith, last.0, ap length none))
        | inr before ↦ (
          before.1,
          before.4,
          stood_in levels level number before.1 (subst (λ (n : ℕ). InLevel levels n before.1) (omega (
            arith,
            before.2,
            last.0,
          )) before.3),
        )
      ]
    ]

    sorted : level ≢ [] → AreLevels pairs stale (More levels level)
    sorted filled = record {
      of_stale = λ number cell here. elim (in_more levels level number cell here) [
        | inl stood ↦
            state.sorted.of_stale number cell stood
        | inr last ↦ of_level cell last.1
      ];
      once = All-push (AllPairs (λ a b. a ≢ b)) levels level state.sorted.once takes.distinct;
      apart = λ i j cell one other. elim (in_more levels level i cell one) [
        | inl stood ↦ elim (in_more levels level j cell other) [
          | inl too ↦ state.sorted.apart i j cell stood too
          | inr last ↦ absurd (not_both i cell stood last.1)
        ]
        | inr here ↦ elim (in_more levels level j cell other) [
          | inl stood ↦ absurd (not_both j cell stood here.1)
          | inr last ↦ here.0 ∙ sym last.0
        ]
      ];
      filled = All-push (λ (l : List Position). l ≢ []) levels level state.sorted.filled filled;
      earlier = earlier;
      least = least;
    }

    module _ (new : Opens) (next_ready : List Position) (filled : level ≢ []) (wakes : Wakes mid new woken next_ready) where
      to_mid : (cell : Position) → IsOpen new cell → IsOpen mid cell
      to_mid cell there = (wakes.keeps.same cell).0 there

      still_valid : (waiter : Waiter) → IsWaiter pairs stale old waiter → IsWaiter pairs stale new waiter
      still_valid waiter valid = record {
        of_stale = valid.of_stale;
        sound = valid.sound;
        all = λ cell there step. valid.all cell (was_open cell (to_mid cell there)) step;
      }

      free : (cell : Position) → Contains next_ready cell → ((from : Position) → Step pairs from cell
          → ¬ IsOpen new from) × FollowsLast pairs stale (More levels level) cell
      free cell listed =
          let found = wakes.free cell listed in
          let known = knew found.0 found.1 in (
            λ from step there. found.3 from (known.2.all from (was_open from (to_mid from there))
                (step_to from cell found.0.cell (sym found.2) step)) (to_mid from there),
            inr (
              length levels,
              known.0,
              sym (one_longer levels level),
              in_last levels level known.0 known.1,
              record {
                step = step_to known.0 found.0.cell cell found.2 known.3;
                before = of_level known.0 known.1;
                behind = subst (Contains stale) found.2 known.2.of_stale;
              },
            ),
          )

      placed : (cell : Position) → IsOpen new cell → Contains next_ready cell ⊎ ((input : Position) × (waiter : Waiter)
          × WaitsOn new input waiter × (waiter.cell ≡ cell))
      placed cell there = elim (state.placed cell (was_open cell (to_mid cell there))) [
        | inl was_ready ↦ absurd ((takes.left cell (to_mid cell there)).1 was_ready)
        | inr waits ↦ elim (takes.stays waits.0 waits.1 waits.2) [
          | inl on ↦ inr (waits.0, waits.1, wakes.keeps.stays waits.0 waits.1 on, waits.3)
          | inr awake ↦ elim (wakes.each waits.1 awake) [
            | inl now_ready ↦ inl (subst (Contains next_ready) waits.3 now_ready)
            | inr again ↦ inr (again.0, again.1, again.2.waits, again.2.looked.cell_is ∙ waits.3)
          ]
        ]
      ]

      pub next_state : IsPlanning pairs stale (More levels level) new next_ready
      next_state = record {
        cells = wakes.keeps.cells;
        sorted = sorted filled;
        parts = λ cell listed. elim (state.parts cell listed) [
          | inl stood ↦ inl (stood.0, stood_in levels level stood.0 cell stood.1)
          | inr there ↦ elim (takes.parts cell there) [
            | inl stays ↦ inr ((wakes.keeps.same cell).1 stays)
            | inr taken ↦ inl (length levels, in_last levels level cell taken)
          ]
        ];
        of_stale = λ cell there. state.of_stale cell (was_open cell (to_mid cell there));
        apart = λ number cell here there. elim (in_more levels level number cell here) [
          | inl stood ↦ state.apart number cell stood (was_open cell (to_mid cell there))
          | inr last ↦ (takes.taken cell last.1).2 (to_mid cell there)
        ];
        waiters = λ input next on. elim (wakes.only input next on) [
          | inl stood ↦ let known = state.waiters input next (takes.waits input next stood) in (still_valid next known.0, known.1)
          | inr awake ↦ looked_on old mid new awake.0 next input (knew awake.0 awake.1).2 to_mid was_open awake.2
        ];
        placed = placed;
        free = free;
      }

  -- ---- before the first level

  module _ (opens new : Opens) (waiters : List Waiter) (ready : List Position) (opened : AreOpenedFor stale opens)
      (firsts : AreFirstWaiters pairs stale waiters) (wakes : Wakes opens new waiters ready) where
    valid_first : (waiter : Waiter) → Contains waiters waiter → IsWaiter pairs stale opens waiter
    valid_first waiter there = let known = firsts.each waiter there in record {
      of_stale = known.0;
      sound = known.1;
      all = λ cell is step. known.2 cell (open_named opens cell opened.cells is).col_to step;
    }

    no_level : (number : ℕ) (cell : Position) → InLevel [] number cell → ⊥
    no_level number cell here = omega (arith, in_within [] number cell here)

    was : (cell : Position) → IsOpen new cell → IsOpen opens cell
    was cell there = (wakes.keeps.same cell).0 there

    pub first_state : IsPlanning pairs stale [] new ready
    first_state = record {
      cells = wakes.keeps.cells;
      sorted = record {
        of_stale = λ number cell here. absurd (no_level number cell here);
        once = λ i d within. absurd (omega (arith, within));
        apart = λ i j cell one other. absurd (no_level i cell one);
        filled = λ i d within. absurd (omega (arith, within));
        earlier = λ number from to here step. absurd (no_level number to here);
        least = λ number to here. absurd (no_level (suc number) to here);
      };
      parts = λ cell listed. inr ((wakes.keeps.same cell).1 ((opened.exact cell).1 listed));
      of_stale = λ cell there. (opened.exact cell).0 (was cell there);
      apart = λ number cell here there. no_level number cell here;
      waiters = λ input next on. elim (wakes.only input next on) [
        | inl stood ↦ absurd (opened.nobody input next stood)
        | inr awake ↦ looked_on opens opens new awake.0 next input (valid_first awake.0 awake.1) was (λ cell there. there) awake.2
      ];
      placed = λ cell there. let first_one = firsts.all cell ((opened.exact cell).0 (was cell there)) in elim (wakes.each first_one.0 first_one.1) [
        | inl listed ↦ inl (subst (Contains ready) first_one.2 listed)
        | inr again ↦ inr (again.0, again.1, again.2.waits, again.2.looked.cell_is ∙ first_one.2)
      ];
      free = λ cell listed. let found = wakes.free cell listed in (
        λ from step there. found.3 from ((valid_first found.0 found.1).all from (was from there)
            (step_to from cell found.0.cell (sym found.2) step)) (was from there),
        inl refl,
      );
    }

  -- ---- behind the last level

  module _ (levels : List (List Position)) (old mid : Opens) (ready circular : List Position) (woken : List Waiter)
      (state : IsPlanning pairs stale levels old ready) (takes : TakesOut old mid ready [] woken)
      (exact : (cell : Position) → Contains circular cell ↔ IsOpen mid cell) where
    open_before : (cell : Position) → IsOpen mid cell → (input : Position) × IsOpen mid input × StaleStep pairs stale input cell
    open_before cell there = elim (state.placed cell (takes.left cell there).0) [
      | inl was_ready ↦ absurd ((takes.left cell there).1 was_ready)
      | inr waits ↦ elim (takes.stays waits.0 waits.1 waits.2) [
        | inl on ↦
            let known = state.waiters waits.0 waits.1 waits.2 in (
              waits.0,
              input_open mid waits.0 waits.1 on,
              record {
                step = step_to waits.0 waits.1.cell cell waits.3 known.1;
                before = state.of_stale waits.0 (takes.left waits.0 (input_open mid waits.0 waits.1 on)).0;
                behind = state.of_stale cell (takes.left cell there).0;
              },
            )
        | inr awake ↦ absurd (let waited = takes.waited waits.1 awake in nothing_listed waited.0 waited.1)
      ]
    ]

    lead : (cell : Position) → Contains circular cell → IsCircular pairs stale cell
    lead = all_lead (back (StaleStep pairs stale)) circular (λ cell listed.
        let before = open_before cell ((exact cell).0 listed) in
        inr (before.0, one_step (back (StaleStep pairs stale)) cell before.0 before.2, (exact before.0).1 before.1))

    open_stays : (cell : Position) → IsOpen old cell → IsOpen mid cell
    open_stays cell there = elim (takes.parts cell there) [ inl stays ↦ stays | inr taken ↦ absurd (nothing_listed cell taken) ]

    pub is_plan : AllPairs (λ a b. a ≢ b) circular → IsPlan pairs stale levels circular
    is_plan distinct = record {
      sorted = state.sorted;
      distinct = distinct;
      each = λ cell listed. elim (state.parts cell listed) [
        | inl stood ↦ inl stood
        | inr there ↦ inr ((exact cell).1 (open_stays cell there))
      ];
      exact = λ cell. (
        λ listed. (state.of_stale cell (takes.left cell ((exact cell).0 listed)).0, lead cell listed),
        λ known. elim (state.parts cell known.0) [
          | inl stood ↦ absurd (not_circular pairs stale levels state.sorted cell stood.0 stood.1 known.1)
          | inr there ↦ (exact cell).1 (open_stays cell there)
        ],
      );
    }
