-- `kept::paths::lead` meets its contract: one round by the sum, two by the weakest vertex. Assumes nothing.
use Rattle.std.proofs.Common.{refl, arith}
use Rattle.kept.proofs.LeadLaws.{again, lead_sum, strongest_bounded, lead_weakest}
use Rattle.kept.proofs.paths.lead.Goals as goal

pub settle-requires-in-Weakest-2 : goal.settle-requires-in-Weakest-2
settle-requires-in-Weakest-2 c =
    let bounded = strongest_bounded c.requires c.in-Weakest.is c.settle-in-Weakest.ensures in
    again c.requires (omega (arith, bounded)) c.settle-in-Weakest.auto.best c.settle-in-Weakest.auto.next

pub returns-in-Sum : goal.returns-in-Sum
returns-in-Sum c = lead_sum c.requires c.in-Sum.is c.settle.ensures

pub returns-in-Weakest : goal.returns-in-Weakest
returns-in-Weakest c = lead_weakest c.requires c.in-Weakest.is c.settle-in-Weakest.ensures c.settle-in-Weakest-2.ensures refl
