-- How the code's answers compare with the definitions.
use Rattle.std.specs.Prelude.{◌≡◌, Result, Ok, Err}
use Rattle.memory_images.specs.declared.fault.FormFault.{FormFault}
use Rattle.memory_images.specs.declared.fault.ImageFault.{ImageFault}
use Rattle.memory_images.specs.declared.fault.ImageFault.TheVariants as faults

-- a call fails because memory was refused or a read failed, or with the fault of the form
abbrev pub Fails : {Y F : Type 0} → ImageFault F → Result Y FormFault → Type 0
Fails faults.OutOfMemory form = Unit {0}
Fails (faults.Read fault) form = Unit {0}
Fails (faults.Form fault) form = form ≡ Err fault

-- a call answers what the form says, with its value seen by view, unless memory was refused or a read failed
abbrev pub Answers : {X Y F : Type 0} → (X → Y) → Result X (ImageFault F) → Result Y FormFault → Type 0
Answers view (Ok x) form = form ≡ Ok (view x)
Answers view (Err fault) form = Fails fault form

-- a call fails because memory was refused or a read failed
abbrev pub HasNoForm : {F : Type 0} → ImageFault F → Type 0
HasNoForm faults.OutOfMemory = Unit {0}
HasNoForm (faults.Read fault) = Unit {0}
HasNoForm (faults.Form fault) = ⊥
