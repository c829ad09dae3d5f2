use Rattle.interleaving_core.proofs.Recorded.{shown_recorded}
use Rattle.interleaving_core.proofs.Sighting.{noted_grows, record_grows, present_noted}
use Rattle.interleaving_core.proofs.laws.sightings.Goals as goal

pub returns : goal.returns
returns c = record {
  words = λ p c d o w grows noted. noted_grows p c d grows noted;
  records = λ p c d o j x w grows lt noted. record_grows p c d grows lt noted;
  recorded = λ p cap es s e j valid small run inside at lt. shown_recorded p cap valid small es s run e inside at j lt;
  present = λ p cap s o sound lt. present_noted p cap s sound o lt;
}
