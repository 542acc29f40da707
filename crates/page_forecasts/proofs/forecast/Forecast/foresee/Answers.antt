use Rattle.std.proofs.Common.{◌∙◌}
use Rattle.std.specs.Option.{option_map}
use Rattle.page_forecasts.proofs.Left.{same_presence}
use Rattle.page_forecasts.proofs.forecast.Forecast.foresee.Goals as goal

pub returns-clause-forecast : goal.returns-clause-forecast
returns-clause-forecast g c =
    (c.serve_all.ensures c.args.salt (option_map (λ page. page.now) c.args.bytes)
    (record { foreseen = c.begin.ensures; mapped = c.is_some.ensures ∙ same_presence c.args.bytes })).foreseen

pub returns-clause-mapped : goal.returns-clause-mapped
returns-clause-mapped g c =
    (c.serve_all.ensures c.args.salt (option_map (λ page. page.now) c.args.bytes)
    (record { foreseen = c.begin.ensures; mapped = c.is_some.ensures ∙ same_presence c.args.bytes })).mapped
