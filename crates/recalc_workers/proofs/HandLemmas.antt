-- From what the queue tells of a hand's view to what contracts say of the hand.
use Rattle.std.proofs.Common.{◌≡◌, ℕ, zero, suc, ◌+◌, List, [], ◌∷◌, ◌++◌, length, sym, refl, ap, ◌∙◌, subst, arith}
use Rattle.std.proofs.lemmas.List.{length-append, length-map, map-append, append-nil}
use mathlib.Core.Option.{some, some-injective, some-ne-none}
use lib.ListN.{get_elem?}
use Rattle.crossbeam_queue.specs.Fifo.{Held}
use Rattle.crossbeam_queue.specs.Passes.{view}
use Rattle.sheet_refs.specs.declared.sizes.Sizes.{Sizes}
use Rattle.recalc_workers.specs.declared.job.Job.{Job}
use Rattle.recalc_workers.specs.declared.rules.Queued.{Queued}
use Rattle.recalc_workers.specs.declared.rules.HandView.{HandView}
use Rattle.recalc_workers.specs.declared.hands.Hand.{Hand}
use Rattle.recalc_workers.specs.Rule.{FitsSheet, AllFit, PutsEntry, TakesEntry, KnowsHeld}
use Rattle.recalc_workers.specs.Hands.{jobs_of, put_of, refused_of, taken_of, is_sole, HasHeld, HasPut, HasRefused, HasTaken, HasFoundFull, HasFoundNone}

fit_jobs : (sizes : Sizes) (entries : List Queued) → AllFit sizes entries → (place : ℕ) (job : Job)
    → get_elem? (jobs_of entries) place ≡ some job → FitsSheet sizes job
fit_jobs sizes [] all place job e = absurd (some-ne-none job (sym e))
fit_jobs sizes (x ∷ xs) all zero job e = subst (λ (y : Job). FitsSheet sizes y) (some-injective x.job job e) (all 0 x refl)
fit_jobs sizes (x ∷ xs) all (suc place) job e = fit_jobs sizes xs (λ q y at. all (suc q) y at) place job e

joined : (xs ys : List Queued) → jobs_of (xs ++ ys) ≡ jobs_of xs ++ jobs_of ys
joined xs ys = map-append (λ entry. entry.job) xs ys

pub held : (sizes : Sizes) (n : ℕ) (old : Hand) → (view old.pass).sizes ≡ sizes → Held n (KnowsHeld (view old.pass)) → HasHeld sizes n old
held sizes n old same h = record {
  held = jobs_of h.0;
  counted = length-map h.0 (λ entry. entry.job) ∙ h.1;
  fit = fit_jobs sizes h.0 (subst (λ (s : Sizes). AllFit s h.0) same h.2.0);
  accounts = λ sole. ap jobs_of (h.2.1 sole) ∙ joined (view old.pass).taken h.0;
}

-- what was put is longer than what was taken by what was held
pub counts : (put taken held : List Job) (n : ℕ) → put ≡ taken ++ held → length held ≡ n → length put ≡ length taken + n
counts put taken held n e l = ap length e ∙ length-append taken held ∙ ap (λ (m : ℕ). length taken + m) l

none_left : (put taken held : List Job) → put ≡ taken ++ held → length held ≡ 0 → put ≡ taken
none_left put taken [] e l = e ∙ append-nil taken
none_left put taken (x ∷ xs) e l = absurd (omega arith)

pub has_put : (old new : Hand) (entry : Queued) → PutsEntry (view old.pass) entry (view new.pass) → view new.note ≡ view old.note → HasPut old new entry.job
has_put old new entry h same =
    let v = view old.pass in record {
      put = ap (λ (w : HandView). jobs_of w.put) h.0 ∙ joined v.put (entry ∷ []);
      refused = same;
      taken = ap (λ (w : HandView). jobs_of w.taken) h.0;
      room = λ sole. let short = h.1 sole in let a = length-map v.put (λ entry. entry.job) in let b = length-map v.taken (λ entry. entry.job) in omega arith;
    }

pub has_taken : (sizes : Sizes) (old new : Hand) (entry : Queued) → (view old.pass).sizes ≡ sizes → TakesEntry (view old.pass) entry (view new.pass)
    → view new.note ≡ view old.note → HasTaken sizes old new entry.job
has_taken sizes old new entry sized h same =
    let v = view old.pass in record {
      put = ap (λ (w : HandView). jobs_of w.put) h.0;
      refused = same;
      taken = ap (λ (w : HandView). jobs_of w.taken) h.0 ∙ joined v.taken (entry ∷ []);
      fits = subst (λ (s : Sizes). FitsSheet s entry.job) sized h.1;
      next = λ sole. let n = h.2 sole in (jobs_of n.0, ap jobs_of n.1 ∙ joined v.taken (entry ∷ n.0));
    }

pub has_found_none : (sizes : Sizes) (old new : Hand) → (view old.pass).sizes ≡ sizes → view new.pass ≡ view old.pass
    → view new.note ≡ view old.note → Held 0 (KnowsHeld (view old.pass)) → HasFoundNone sizes old new
has_found_none sizes old new sized same noted h =
    let none = held sizes 0 old sized h in record {
      same = record {
        put = ap (λ (w : HandView). jobs_of w.put) same;
        refused = noted;
        taken = ap (λ (w : HandView). jobs_of w.taken) same;
      };
      empty = none;
      all_taken = λ sole. none_left (put_of old) (taken_of old) none.held (none.accounts sole) none.counted;
    }

pub has_found_full : (sizes : Sizes) (old new : Hand) (n : ℕ) → (view old.pass).sizes ≡ sizes → n ≡ 65536 → view new.pass ≡ view old.pass
    → view new.note ≡ view old.note → Held n (KnowsHeld (view old.pass)) → HasFoundFull sizes old new
has_found_full sizes old new n sized room same noted h =
    let full = held sizes 65536 old sized (h.0, h.1 ∙ room, h.2) in record {
      same = record {
        put = ap (λ (w : HandView). jobs_of w.put) same;
        refused = noted;
        taken = ap (λ (w : HandView). jobs_of w.taken) same;
      };
      full = full;
      no_room = λ sole. counts (put_of old) (taken_of old) full.held 65536 (full.accounts sole) full.counted;
    }

-- a job is noted as refused after the queue was found full
pub has_refused : (sizes : Sizes) (old full new : Hand) (job : Job) → HasFoundFull sizes old full → put_of new ≡ put_of full
    → taken_of new ≡ taken_of full → refused_of new ≡ refused_of full ++ job ∷ [] → HasRefused sizes old new job
has_refused sizes old full new job found put taken noted = record {
  put = put ∙ found.same.put;
  refused = noted ∙ ap (λ (jobs : List Job). jobs ++ job ∷ []) found.same.refused;
  taken = taken ∙ found.same.taken;
  full = found.full;
  no_room = found.no_room;
}

-- what a hand found, another one finds too that has put and taken the same
pub found_still : (sizes : Sizes) (old full other : Hand) → HasFoundFull sizes old full → is_sole other ≡ is_sole old
    → put_of other ≡ put_of old → taken_of other ≡ taken_of old → HasFoundFull sizes other other
found_still sizes old full other found sole put taken =
    let h = found.full in record {
      same = record { put = refl; refused = refl; taken = refl };
      full = record {
        held = h.held;
        counted = h.counted;
        fit = h.fit;
        accounts = λ is. put ∙ h.accounts (sym sole ∙ is) ∙ ap (λ (jobs : List Job). jobs ++ h.held) (sym taken);
      };
      no_room = λ is. ap length put ∙ found.no_room (sym sole ∙ is) ∙ ap (λ (jobs : List Job). length jobs + 65536) (sym taken);
    }
