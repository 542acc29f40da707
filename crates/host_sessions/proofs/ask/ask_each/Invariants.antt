use Rattle.std.proofs.Common.{◌≡◌, ◌++◌, drop}
use Rattle.arrayvec.specs.ArrayVec.{array_vec_len}
use Rattle.fingerprint_domain.specs.Known.{fingerprints_in}
use Rattle.host_sessions.specs.Turns.{answers_to, asked}
use Rattle.host_sessions.proofs.ask.ask_each.Given as goal

abbrev pub invariant-loop-question : goal.invariant-loop-question
invariant-loop-question g l = record {
  answers : l.answers.items ++ answers_to (fingerprints_in l.domain.salt l.domain.domain.machines) l.client (drop l.question-index l.questions) l.recent ≡ answers_to (fingerprints_in l.domain.salt l.domain.domain.machines) l.client l.questions l.fn.recent;
  asked : asked (fingerprints_in l.domain.salt l.domain.domain.machines) l.client (drop l.question-index l.questions) l.recent ≡ asked (fingerprints_in l.domain.salt l.domain.domain.machines) l.client l.questions l.fn.recent;
  len : array_vec_len l.answers ≡ l.question-index;
}
