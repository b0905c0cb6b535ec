-- The first worker knows the cell's code, and the mark that it read is the last one.
use Rattle.std.proofs.Common.{◌<◌, ◌+◌, ℕ, List, sym, ◌∙◌, ap, subst, arith}
use Rattle.mark_core.specs.Marks.{IsLastMark}
use Rattle.mark_words.specs.Tokens.{doing_of}
use Rattle.mark_trial.specs.TwoTestCells.{code_of, cell_code}
use Rattle.mark_trial.proofs.TestLemmas.{last_read, may_put, may_finish}
use Rattle.mark_trial.proofs.words.row.contends.Goals as goal

pub put-requires-clause-held : goal.put-requires-clause-held
put-requires-clause-held c κs =
    may_put (λ (log : List ℕ) (place : ℕ). cell_code log place) (λ (log : List ℕ) (entry place : ℕ). place < 2)
    (doing_of c.reads-own.new.seat) (doing_of c.claim.new.seat) c.args.place c.code.result c.reads-own.result.mark
    (ap (λ l. cell_code l c.args.place) c.reads-own.ensures.read.log ∙ ap (λ n. code_of (n + c.args.place)) c.requires.first.ends ∙ sym c.code.ensures)
    c.in-Ok.ensures.taken

pub finish-requires-clause-computed : goal.finish-requires-clause-computed
finish-requires-clause-computed c κs =
    may_finish (λ (log : List ℕ) (place : ℕ). cell_code log place) (λ (log : List ℕ) (entry place : ℕ). place < 2)
    (doing_of c.reads-own.new.seat) (doing_of c.claim.new.seat) c.args.place c.code.result c.reads-own.result.mark
    (ap (λ l. cell_code l c.args.place) c.reads-own.ensures.read.log ∙ ap (λ n. code_of (n + c.args.place)) c.requires.first.ends ∙ sym c.code.ensures)
    c.in-Ok.ensures.taken
    (subst (λ (l : List ℕ). IsLastMark (λ (log : List ℕ) (entry place : ℕ). place < 2) l c.args.place
    c.reads-own.result.mark) (sym c.reads-own.ensures.read.log)
    (last_read (λ (log : List ℕ) (place : ℕ). cell_code log place) (λ (log : List ℕ) (entry place : ℕ). place < 2)
    (doing_of c.args.first.now) (doing_of c.reads-own.new.seat) c.args.place c.reads-own.result.clean
    c.reads-own.result.word c.reads-own.result.mark
    c.reads-own.ensures.read (omega (arith, c.if-own-count.false, c.requires.first.entries))))
    (doing_of c.put.new.seat) c.put.ensures.doing
