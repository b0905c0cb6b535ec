use Rattle.std.proofs.lemmas.List.Elements.{All-push}
use Rattle.live_sheet.specs.Slices.{IsValued}
use Rattle.live_sheet.proofs.valuing.list_one.Goals as goal

pub returns : goal.returns
returns c =
    rw (c.in_ok-push.ensures.items) (record {
      valued = All-push (IsValued c.args.sheet.now) c.args.valued.now.items c.valued_at-one.result c.requires.valued c.valued_at-one.ensures.valued;
    })
