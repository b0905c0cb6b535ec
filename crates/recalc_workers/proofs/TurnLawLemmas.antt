-- What the causes of a turn's answers come to.
use Rattle.std.proofs.Common.{◌≡◌, ◌<◌, ◌≤◌, ◌+◌, ◌-◌, ◌*◌, ◌⊎◌, ℕ, List, [], ◌∷◌, ◌++◌, Some, true, length, refl, sym, ◌∙◌, ap, inl, inr, arith, append_assoc}
use Rattle.std.specs.Prelude.{slice_get}
use Rattle.std.proofs.lemmas.Bool.{cases_lt}
use Rattle.std.proofs.lemmas.Option.{slice_get-get_or}
use Rattle.sheet_refs.specs.Cells.{Position}
use Rattle.sheet_refs.specs.Sizes.{place_of}
use Rattle.sheet_refs.specs.declared.sizes.Sizes.{Sizes}
use Rattle.mark_core.specs.declared.words.Clean.{Clean}
use Rattle.mark_core.specs.declared.words.Finished.{Finished}
use Rattle.mark_core.specs.declared.events.Event.TheVariants.{Claim, Put, Finish}
use Rattle.mark_core.specs.declared.subjects.Subject.{Ghosts}
use Rattle.mark_core.proofs.Prefixes.{prefix_length}
use Rattle.mark_words.specs.declared.seats.Seat.{Seat}
use Rattle.mark_words.specs.declared.tables.OwnStep.{OwnStep}
use Rattle.mark_words.specs.Steps.{made_of}
use Rattle.mark_words.specs.Tokens.{own_steps, view_of}
use Rattle.mark_words.specs.Words.{word_of_clean}
use Rattle.sheet_model.proofs.PartLemmas.{slice_get-behind}
use Rattle.sheet_model.specs.Sheets.{SheetValue}
use Rattle.sheet_model.specs.declared.entry.Entry.{Entry}
use Rattle.recalc_workers.specs.declared.hands.Hand.{Hand}
use Rattle.recalc_workers.specs.declared.job.Job.{Job}
use Rattle.recalc_workers.specs.declared.turns.Turn.{Turn}
use Rattle.recalc_workers.specs.declared.turns.Turn.TheVariants.{Done, Idle, Nothing, Later, Stale, Busy, Memory}
use Rattle.recalc_workers.specs.Again.{HasTakenOne, comes_again}
use Rattle.recalc_workers.specs.Hands.{put_of, refused_of, taken_of}
use Rattle.recalc_workers.specs.TurnLaws.{StandsLater, WasReadSo, SawNoMore, EndsWithWork, DoneIsOneFinish}
use Rattle.recalc_workers.specs.TurnLaws.{OthersFinishNothing, OthersLoseNothing, HoldsStay, NothingWasClean, LaterIsPast, StaleHasAnInput}
use Rattle.recalc_workers.specs.TurnLaws.{BusyFoundAnother, IdleTakesNone, TakesOneAndOffersNone, TakesOneAndOffersIt}
use Rattle.recalc_workers.specs.Turns.{WasAdded, HasReadOf, HasMetAt, IsBusy, IsDone}

stands_later : {X : Type 0} (old new : List X) (x : X) → WasAdded old new x → StandsLater old new x
stands_later old new x w =
    let k = w.among.0 in (
      length old + k,
      omega arith,
      ap (λ l. slice_get l (length old + k)) w.all
          ∙ slice_get-behind old w.added k x (slice_get-get_or w.added k x w.among.1 ∙ ap Some w.among.2),
    )

module _ {S E : Type 0} {G : Ghosts S E} (old new : Seat S E G) where
  was_read : (place : ℕ) (of : HasReadOf old new place) (Is : Finished → Type 0) → Is of.read → WasReadSo old new place Is
  was_read place of Is so =
      record { read = of.read; later = stands_later (view_of old).reads (view_of new).reads of.read of.added; place_is = of.place_is; so = so }

  saw_no_more : (met : ℕ) → HasMetAt old new met → SawNoMore old new met
  saw_no_more met h = ((h.count, stands_later (view_of old).sees (view_of new).sees h.count h.added, h.most), h.known)

  ends_with_work : (place : ℕ) (d : IsDone old new place) → EndsWithWork (own_steps old) (own_steps new) place d.of.read.clean d.of.read.mark
  ends_with_work place d =
      let s = d.steps in
      let a : OwnStep E = record { number = s.claim.number; made = made_of (Claim s.claim.view place d.of.read.clean) (word_of_clean d.of.read.clean) } in
      let b : OwnStep E = record { number = s.put.number; made = made_of (Put s.put.view place d.word) d.word } in
      let c : OwnStep E = record { number = s.finish.number; made = made_of (Finish s.finish.view place d.of.read.mark) (2 * (d.of.read.mark + 1)) } in
      let two : s.filled ≡ d.before ++ a ∷ b ∷ [] = s.put.is ∙ ap (λ l. l ++ b ∷ []) s.claim.is ∙ append_assoc d.before (a ∷ []) (b ∷ []) in
      record {
        before = d.before;
        claim = a;
        put = b;
        finish = c;
        word = d.word;
        whole = s.finish.is ∙ ap (λ l. l ++ c ∷ []) two ∙ append_assoc d.before (a ∷ b ∷ []) (c ∷ []);
        earlier = prefix_length (own_steps old) d.before d.earlier;
        claims = (s.claim.view, refl);
        found = refl;
        puts = (s.put.view, refl);
        finishes = (s.finish.view, refl);
      }

busy_holds : {S E : Type 0} {G : Ghosts S E} (old new : Seat S E G) (place : ℕ) (seen found : Clean)
    → IsBusy old new place seen found → ((view_of new).done ≡ (view_of old).done)
    × ((view_of new).holds ≡ (view_of old).holds)
busy_holds old new place seen found b = elim b.why [ inl h ↦ (h.idle.done, h.idle.holds) | inr r ↦ (r.done, r.holds) ]

module _ {S : Type 0} {G : Ghosts S Entry} (opening : SheetValue) (old : Seat S Entry G) where
  pub done_is_one : DoneIsOneFinish opening old
  done_is_one new cell d =
      (was_read old new (place_of opening.sizes cell) d.of _ (d.stale, d.done, ends_with_work old new (place_of opening.sizes cell) d), d.lost)

  pub others_finish_nothing : OthersFinishNothing opening old
  others_finish_nothing new (Done cell) cause other = absurd (other cell refl)
  others_finish_nothing new Idle cause other = cause.done
  others_finish_nothing new (Nothing cell) cause other = cause.idle.done
  others_finish_nothing new (Later cell mark met) cause other = cause.idle.done
  others_finish_nothing new (Stale cell input met) cause other = cause.idle.done
  others_finish_nothing new (Busy cell seen found) cause other = (busy_holds old new (place_of opening.sizes cell) seen found cause).0
  others_finish_nothing new (Memory cell) cause other = cause.done

  pub others_lose_nothing : OthersLoseNothing opening old
  others_lose_nothing new (Done cell) cause other = cause.lost
  others_lose_nothing new Idle cause other = cause.lost
  others_lose_nothing new (Nothing cell) cause other = cause.idle.lost
  others_lose_nothing new (Later cell mark met) cause other = cause.idle.lost
  others_lose_nothing new (Stale cell input met) cause other = cause.idle.lost
  others_lose_nothing new (Busy cell seen found) cause other = absurd (other cell seen found refl)
  others_lose_nothing new (Memory cell) cause other = cause.lost

  pub holds_stay : HoldsStay opening old
  holds_stay new (Done cell) cause = cause.holds
  holds_stay new Idle cause = cause.holds
  holds_stay new (Nothing cell) cause = cause.idle.holds
  holds_stay new (Later cell mark met) cause = cause.idle.holds
  holds_stay new (Stale cell input met) cause = cause.idle.holds
  holds_stay new (Busy cell seen found) cause = (busy_holds old new (place_of opening.sizes cell) seen found cause).1
  holds_stay new (Memory cell) cause = cause.holds

  pub nothing_was_clean : NothingWasClean opening old
  nothing_was_clean new cell cause = was_read old new (place_of opening.sizes cell) cause.of _ cause.clean

  pub later_is_past : LaterIsPast opening old
  later_is_past new cell mark met cause =
      (was_read old new (place_of opening.sizes cell) cause.of _ cause.mark_is, cause.past, saw_no_more old new met cause.bound)

  pub stale_has_an_input : StaleHasAnInput opening old
  stale_has_an_input new cell input met cause =
      (cause.input_is, was_read old new (place_of opening.sizes input) cause.of _ cause.outdated, saw_no_more old new met cause.bound, cause.on_no_cycle)

  pub busy_found_another : BusyFoundAnother opening old
  busy_found_another new cell seen found cause = (
    was_read old new (place_of opening.sizes cell) cause.of _ cause.clean,
    elim cause.why [ inl h ↦ inl (h.held, h.same, h.idle.lost) | inr r ↦ inr (r.another, r.lost) ],
  )

pub idle_takes_none : IdleTakesNone
idle_takes_none sizes old new h = (h.same.taken, h.same.put, h.same.refused)

takes_none : (sizes : Sizes) (old new : Hand) (turn : Turn) (cell : Position) (h : HasTakenOne sizes old new turn)
    → cell ≡ h.job.cell → (put_of new ≡ put_of h.mid) × (refused_of new ≡ refused_of h.mid)
    × (taken_of new ≡ taken_of h.mid)
    → (tries : ℕ) × (taken_of new ≡ taken_of old ++ record { cell = cell; tries = tries } ∷ []) × (put_of new ≡ put_of old) × (refused_of new ≡ refused_of old)
takes_none sizes old new turn cell h about same = (
  h.job.tries,
  same.2 ∙ h.taken.taken ∙ ap (λ p. taken_of old ++ record { cell = p; tries = h.job.tries }
      ∷ []) (sym about),
  same.0 ∙ h.taken.put,
  same.1 ∙ h.taken.refused,
)

pub takes_one_and_offers_none : TakesOneAndOffersNone
takes_one_and_offers_none sizes old new cell (inl h) =
    let s = h.offered.done refl in takes_none sizes old new (Done cell) cell h h.about (s.put, s.refused, s.taken)
takes_one_and_offers_none sizes old new cell (inr h) =
    let s = h.offered.done refl in takes_none sizes old new (Nothing cell) cell h h.about (s.put, s.refused, s.taken)

module _ (sizes : Sizes) (old new : Hand) (turn : Turn) (cell : Position) (h : HasTakenOne sizes old new turn)
    (about : cell ≡ h.job.cell) (again : comes_again turn ≡ true) where
  job_of : ℕ → Job
  job_of tries = record { cell = cell; tries = tries }

  taken_still : taken_of new ≡ taken_of h.mid
  taken_still =
      elim (cases_lt 1 h.job.tries) [
        | inl more ↦ elim (h.offered.again again more) [ inl put ↦ put.taken | inr refused ↦ refused.taken ]
        | inr few ↦ (h.offered.last few).taken
      ]

  abbrev Offers : Type 0
  Offers =
      (tries : ℕ) × (taken_of new ≡ taken_of old ++ record { cell = cell; tries = tries } ∷ [])
      × (1 < tries → (left : ℕ) × (left + 1 ≡ tries)
      × (((put_of new ≡ put_of old ++ record { cell = cell; tries = left } ∷ []) × (refused_of new ≡ refused_of old))
      ⊎ ((put_of new ≡ put_of old) × (refused_of new ≡ refused_of old ++ record { cell = cell; tries = left } ∷ []))))
      × (tries ≤ 1 → (put_of new ≡ put_of old) × (refused_of new ≡ refused_of old))

  with_cell : (l : List Job) (tries : ℕ) → l ++ record { cell = h.job.cell; tries = tries } ∷ [] ≡ l ++ record { cell = cell; tries = tries } ∷ []
  with_cell l tries = ap (λ p. l ++ record { cell = p; tries = tries } ∷ []) (sym about)

  pub offers : Offers
  offers = (
    h.job.tries,
    taken_still ∙ h.taken.taken ∙ with_cell (taken_of old) h.job.tries,
    (λ more. (
      h.job.tries - 1,
      omega (arith, more),
      elim (h.offered.again again more) [
        | inl put ↦ inl (
          put.put ∙ ap (λ l. l ++ record { cell = h.job.cell; tries = h.job.tries - 1 } ∷ []) h.taken.put
              ∙ with_cell (put_of old) (h.job.tries - 1),
          put.refused ∙ h.taken.refused,
        )
        | inr refused ↦
            inr (
              refused.put ∙ h.taken.put,
              refused.refused
                  ∙ ap (λ l. l ++ record { cell = h.job.cell; tries = h.job.tries - 1 } ∷ []) h.taken.refused
                  ∙ with_cell (refused_of old) (h.job.tries - 1),
            )
      ],
    )),
    (λ few. let s = h.offered.last few in (s.put ∙ h.taken.put, s.refused ∙ h.taken.refused)),
  )

pub takes_one_and_offers_it : TakesOneAndOffersIt
takes_one_and_offers_it sizes old new cell input seen found mark met (inl h) = offers sizes old new (Later cell mark met) cell h h.about refl
takes_one_and_offers_it sizes old new cell input seen found mark met (inr (inl h)) = offers sizes old new (Stale cell input met) cell h h.about refl
takes_one_and_offers_it sizes old new cell input seen found mark met (inr (inr (inl h))) = offers sizes old new (Busy cell seen found) cell h h.about refl
takes_one_and_offers_it sizes old new cell input seen found mark met (inr (inr (inr h))) = offers sizes old new (Memory cell) cell h h.about refl
