-- What the numbers of C are as what looks have found.
use Rattle.page_looks.specs.declared.idle.look.LookConfig.{LookConfig}
use Rattle.pageshare_window_c.specs.declared.looks.WindowLook.{WindowLook}

abbrev pub config_of : WindowLook → LookConfig
config_of look = record { turns = look.turns; rest_most = look.rest_most }
