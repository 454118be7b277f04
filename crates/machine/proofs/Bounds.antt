-- Every settings value keeps its bounds.
use Rattle.machine.specs.declared.settings.Settings.{Settings}
use Rattle.machine.specs.Limits.{Bounded}

pub bounded : (s : Settings) → Bounded s
bounded s = assumption
