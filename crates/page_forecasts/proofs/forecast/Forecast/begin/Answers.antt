use Rattle.std.proofs.Common.{refl}
use Rattle.page_model.specs.Pages.{blank}
use Rattle.page_forecasts.proofs.forecast.Forecast.begin.Goals as goal

pub returns-in-None : goal.returns-in-None
unfolding blank
returns-in-None g c = rw c.in-None.is refl
