-- The reply of an actor.
use Rattle.std.specs.Prelude.{false, [], None}
use Rattle.lte_events.specs.{declared.answers.Answer.Answer, declared.replies.ActorOut.ActorOut}

-- the reply with this answer and nothing else
abbrev pub reply_of : Answer → ActorOut
reply_of answer = record {
  answer = answer;
  sent = None;
  tuple = None;
  opened = None;
  derived = [];
  received = None;
  used = [];
  accepted = None;
  note = None;
  alarm = false;
}
