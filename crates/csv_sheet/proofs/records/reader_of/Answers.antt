use Rattle.std.proofs.Common.{◌∙◌, sym, refl, ap, inr, Some}
use Rattle.csv.specs.Reading.{Reached}
use Rattle.csv_sheet.proofs.MarkLemmas.{strip_nothing}
use Rattle.csv_sheet.proofs.records.reader_of.Goals as goal

pub returns : goal.returns
unfolding Reached
returns c =
    let made = c.from_reader.ensures in
    let flexible = c.flexible.ensures in
    let headers = c.has_headers.ensures in
    record {
      plain = made.trim ∙ ap (λ b. b.trim) flexible ∙ ap (λ b. b.trim) headers ∙ c.new.ensures.trim;
      ready = inr (inr (made.has_headers ∙ ap (λ b. b.has_headers) flexible ∙ ap (λ b. b.has_headers) headers, made.headers));
      config = made.config ∙ ap (λ b. b.config) flexible ∙ ap (λ b. b.config) headers ∙ c.new.ensures.config;
      flexible = made.flexible ∙ ap (λ b. b.flexible) flexible;
      rest = c.args.text.now;
      source = made.source ∙ ap Some (strip_nothing c.args.text.now c.requires);
      reached = (sym made.state, refl);
    }
