-- A posting is accepted exactly if each of its questions is answered yes, for all six changes. Assumes nothing.
use Rattle.format.specs.declared.Change.TheVariants.{AddBlock, AddData, AddShared, DropBlock, DropData, DropShared}
use Rattle.theorems.specs.Acceptance.{Acceptance}
use Rattle.theorems.proofs.AddsAccepted.{add-block, add-data, add-shared}
use Rattle.theorems.proofs.DropCallsAccepted.{drops-block, drops-data, drops-shared}

pub acceptance : Acceptance
acceptance nodesize sheet (AddBlock extent name) room = add-block nodesize sheet extent name room
acceptance nodesize sheet (AddData extent name amount) room = add-data nodesize sheet extent name amount room
acceptance nodesize sheet (AddShared extent name amount) room = add-shared nodesize sheet extent name amount room
acceptance nodesize sheet (DropBlock extent name) room = drops-block nodesize sheet extent name room
acceptance nodesize sheet (DropData extent name) room = drops-data nodesize sheet extent name room
acceptance nodesize sheet (DropShared extent name amount) room = drops-shared nodesize sheet extent name amount room
