use Rattle.std.proofs.Common.{◌≡◌, ◌<◌, ◌∙◌, ◌++◌, ◌∷◌, [], length, sym, subst, arith}
use Rattle.csv.specs.Records.{fields_of}
use Rattle.csv_sheet.proofs.WayLemmas.{put_none, put_all, put_more, put_fits, put_refused, all_read, not_ended}
use Rattle.csv_sheet.specs.Filling.{IsRowRefusal}
use Rattle.csv_sheet.proofs.RecordLemmas.{err_handed}
use Rattle.csv_sheet.proofs.rows.fill_records.Goals as goal

pub loop-row-init : goal.loop-row-init
loop-row-init c =
    let all = c.requires.blank in
    record {
      rows = [];
      read = c.reader_of-reader.ensures;
      put = put_none c.args.text.now all.0 all.1 all.2 c.args.sheet.now all.3;
    }

pub unreachable-requires : goal.unreachable-requires
unreachable-requires c =
    let all = c.requires.blank in
    let way = c.loop-row.invariant in
    let ended = rw c.if-not-branch.true at (c.in_ok-read_text.ensures c.args.text.now way.rows way.read) in
    let less : length way.rows < c.args.sheet.now.sizes.rows = (let t = c.loop-row-test.true in
    let e = c.rows-row-end.ensures.rows in let n = way.put.count in omega (arith, t, e, n)) in
    not_ended c.args.text.now all.0 all.1 all.2 c.args.sheet.now all.3 way.rows ended less

pub fill_row-requires : goal.fill_row-requires
fill_row-requires c =
    let all = c.requires.blank in
    let way = c.loop-row.invariant in
    let read = rw c.if-not-branch.false at (c.in_ok-read_text.ensures c.args.text.now way.rows way.read) in
    put_fits c.args.text.now all.0 all.1 all.2 c.args.sheet.now all.3 way.rows (fields_of c.read_text.new.fields)
    c.read_text.new.reader.state read.rest read.reached c.loop-row.row c.loop-row.sheet way.put

pub loop-row-preserved : goal.loop-row-preserved
loop-row-preserved c =
    let way = c.loop-row.invariant in
    let read = rw c.if-not-branch.false at (c.in_ok-read_text.ensures c.args.text.now way.rows way.read) in
    let filled = c.in_ok-fill_row.ensures in
    let fields = fields_of c.read_text.new.fields in
    record {
      rows = way.rows ++ fields ∷ [];
      read = read;
      put = put_more way.rows fields c.loop-row.row c.args.sheet.now c.loop-row.sheet c.fill_row.new.sheet way.put
          filled.filled filled.edition filled.sizes filled.few;
    }

pub returns-clause-filled : goal.returns-clause-filled
returns-clause-filled c =
    let all = c.requires.blank in
    let at_end : c.loop-row.row ≡ c.args.sheet.now.sizes.rows = (let t = c.loop-row-test.false in
    let e = c.rows-row-end.ensures.rows in let m = c.loop-row.auto.row-end in omega (arith, t, e, m)) in
    let way = c.loop-row.invariant in
    let same = all_read c.args.text.now all.0 all.1 all.2 c.args.sheet.now all.3 way.rows
    c.loop-row.reader.state way.read.rest way.read.reached (way.put.count ∙ at_end) in
    (all.0, all.1, put_all c.args.text.now all.0 all.1 all.2 c.args.sheet.now all.3 way.rows c.loop-row.row c.loop-row.sheet same way.put)

pub returns-in_err-fill_row-clause-why : goal.returns-in_err-fill_row-clause-why
returns-in_err-fill_row-clause-why c =
    let all = c.requires.blank in
    let way = c.loop-row.invariant in
    let read = rw c.if-not-branch.false at (c.in_ok-read_text.ensures c.args.text.now way.rows way.read) in
    err_handed c.from_residual-in_err-fill_row.result _ _ (λ e same other. (
      all.0,
      all.1,
      put_refused c.args.text.now all.0 all.1 all.2 c.args.sheet.now all.3 way.rows (fields_of c.read_text.new.fields)
          c.read_text.new.reader.state read.rest read.reached c.loop-row.row c.loop-row.sheet way.put
          e other (subst (λ k. IsRowRefusal c.loop-row.sheet.edition c.loop-row.row (fields_of c.read_text.new.fields)
          k) (sym same) c.in_err-fill_row.ensures.why),
    ))
    c.from_residual-in_err-fill_row.ensures.1
