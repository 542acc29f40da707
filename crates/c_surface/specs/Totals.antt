-- What a domain counts, as C reads it.
use Rattle.share_domain.specs.declared.report.DomainReport.{DomainReport}
use Rattle.c_surface.specs.declared.totals.DomainTotals.{DomainTotals}

abbrev pub totals_of : DomainReport → DomainTotals
totals_of r = record { machines = r.machines; clients = r.clients; slots = r.slots; frames = r.frames; shared = r.shared; reclaimed = r.reclaimed }
