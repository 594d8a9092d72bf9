use Rattle.std.proofs.Common.{refl}
use Rattle.zuc.specs.State.{after, keystream_word}
use Rattle.zuc.proofs.generator.Generator.next_words.Goals as goal

pub returns-clause-state : goal.returns-clause-state
unfolding after
returns-clause-state c =
    rw (
      c.next_word-16.ensures.state,
      c.next_word-15.ensures.state,
      c.next_word-14.ensures.state,
      c.next_word-13.ensures.state,
      c.next_word-12.ensures.state,
      c.next_word-11.ensures.state,
      c.next_word-10.ensures.state,
      c.next_word-9.ensures.state,
      c.next_word-8.ensures.state,
      c.next_word-7.ensures.state,
      c.next_word-6.ensures.state,
      c.next_word-5.ensures.state,
      c.next_word-4.ensures.state,
      c.next_word-3.ensures.state,
      c.next_word-2.ensures.state,
      c.next_word.ensures.state,
    )
    refl

pub returns-clause-value : goal.returns-clause-value
unfolding after keystream_word
returns-clause-value c =
    rw (
      c.next_word.ensures.value,
      c.next_word-2.ensures.value,
      c.next_word-3.ensures.value,
      c.next_word-4.ensures.value,
      c.next_word-5.ensures.value,
      c.next_word-6.ensures.value,
      c.next_word-7.ensures.value,
      c.next_word-8.ensures.value,
      c.next_word-9.ensures.value,
      c.next_word-10.ensures.value,
      c.next_word-11.ensures.value,
      c.next_word-12.ensures.value,
      c.next_word-13.ensures.value,
      c.next_word-14.ensures.value,
      c.next_word-15.ensures.value,
      c.next_word-16.ensures.value,
      c.next_word-15.ensures.state,
      c.next_word-14.ensures.state,
      c.next_word-13.ensures.state,
      c.next_word-12.ensures.state,
      c.next_word-11.ensures.state,
      c.next_word-10.ensures.state,
      c.next_word-9.ensures.state,
      c.next_word-8.ensures.state,
      c.next_word-7.ensures.state,
      c.next_word-6.ensures.state,
      c.next_word-5.ensures.state,
      c.next_word-4.ensures.state,
      c.next_word-3.ensures.state,
      c.next_word-2.ensures.state,
      c.next_word.ensures.state,
    ) refl
