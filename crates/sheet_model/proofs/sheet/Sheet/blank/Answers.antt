use Rattle.std.proofs.Common.{◌≡◌, ◌*◌, arith, refl}
use Rattle.sheet_model.specs.Sheets.{content_value}
use Rattle.sheet_model.specs.declared.content.Content.TheVariants.{Empty}
use Rattle.sheet_model.proofs.SheetLemmas.{map-replicate, sheet_blank}
use Rattle.sheet_model.proofs.sheet.Sheet.blank.Goals as goal

pub invariant_of-result : goal.invariant_of-result
invariant_of-result c =
    let all : c.loop.counter ≡ c.args.rows * c.args.cols = omega arith in
    record {
      sheet = rw (
        c.loop.invariant,
        map-replicate content_value c.loop.counter Empty,
        all,
        c.new.ensures,
      ) (sheet_blank c.args.edition (record { rows = c.args.rows; cols = c.args.cols }) c.requires);
      nothing = refl;
    }

pub returns : goal.returns
returns c =
    let all : c.loop.counter ≡ c.args.rows * c.args.cols = omega arith in
    rw (c.loop.invariant, map-replicate content_value c.loop.counter Empty, all, c.new.ensures) refl
