-- How faults are reported.
use Rattle.page_census.specs.declared.fault.CensusFault.{CensusFault}
use Rattle.page_census.specs.declared.fault.CensusFault.TheVariants as outer
use Rattle.page_census.specs.declared.fault.LookFault.{LookFault}
use Rattle.page_census.specs.declared.fault.LookFault.TheVariants as inner

-- the fault of a census when pages can't be read or compared
abbrev pub census_fault : {F : Type 0} → LookFault F → CensusFault F
census_fault inner.OutOfMemory = outer.OutOfMemory
census_fault (inner.Read guest fault) = outer.Read guest fault
