-- What a view saw, beside the present state
use Rattle.std.specs.Prelude.{◌≡◌, ◌<◌, Contains, Some}
use Rattle.morph_base.specs.declared.plan.Plan.{Plan}
use Rattle.morph_base.specs.Plans.{op_count}
use Rattle.interleaving_core.specs.Core.{Core}
use Rattle.interleaving_core.specs.Sightings.{IsNoted, IsRecordNoted}
use Rattle.op_words.specs.declared.trail.Item.{Item}
use Rattle.op_words.specs.declared.trail.RecordSeen.{RecordSeen}
use Rattle.op_words.specs.declared.trail.DecisionSeen.{DecisionSeen}
use Rattle.op_words.specs.declared.trail.View.{View}

-- Each word and record in view v agrees with state c as one that was seen, and each decision in v stands in c
pub record AreNoted (p : Plan) (c : Core) (v : View) : Type 0 where
  pub notes : (n : Item) → Contains v.notes n → IsNoted c n.op n.word
  pub records : (r : RecordSeen) → Contains v.records r → IsRecordNoted c r.op r.place r.value r.word
  pub in_plan : (r : RecordSeen) → Contains v.records r → r.op < op_count p
  pub decisions : (d : DecisionSeen) → Contains v.decisions d → c.decision d.event ≡ Some d.committed
