-- One line more that was answered.
use Rattle.std.proofs.Common.{◌≡◌, ℕ, ◌+◌, ◌*◌, ◌≤◌, ◌||◌, Bool, true, false, List, [], ◌∷◌, ◌++◌, length, if◌then◌else◌, refl, sym, ap, ◌∙◌, subst, append_assoc, arith}
use Rattle.std.proofs.lemmas.Bool.{false≢true}
use Rattle.std.proofs.lemmas.Grind.{flat_map-append}
use Rattle.std.proofs.lemmas.List.{append-nil, length-append}
use Rattle.std.proofs.lemmas.List.Folds.{list_any-append}
use Rattle.std.specs.List.{list_any}
use Rattle.cfs_base.specs.Outside.{Intake, count_after}
use Rattle.cfs_ports.specs.Port.{Replied}
use Rattle.cfs_streams.proofs.WriteLaws.{nothing, then as both, then_some}
use Rattle.cfs_streams.specs.Writing.{Wrote}
use Rattle.name_dirs.specs.Faults.{NoneFalls}
use Rattle.name_lines.specs.declared.answer.Answer.{Answer}
use Rattle.name_lines.specs.Printed.{answer_line, printed_answers, is_disk_answer, is_memory_answer}
use Rattle.ufs_model.specs.declared.asker.Asker.{Ghosts}
use Rattle.cfs_serve.specs.Lines.{After, AnswersFirst, AnswersOne, Begun, HasAnswered, faults_told, told_nothing}
use Rattle.cfs_serve.specs.declared.answering.Told.{Told}

-- ---- what was written

printed_more : (told : List Answer) (a : Answer) → printed_answers (told ++ a ∷ []) ≡ printed_answers told ++ answer_line a
printed_more told a = flat_map-append answer_line told (a ∷ []) ∙ ap (λ l. printed_answers told ++ l) (append-nil (answer_line a))

replied_then : (took : Bool) (a b c : Intake) (xs ys : List ℕ) → Wrote a b xs → Replied b c ys took → Replied a c (xs ++ ys) took
replied_then true a b c xs ys first second = both a b c xs ys first second
replied_then false a b c xs ys first second = then_some a b c xs ys first second

module _ (all left lines : List (List ℕ)) (line : List ℕ) (told : List Answer) (answer : Answer) (a b c : Intake) (took : Bool) where
  first_more : AnswersFirst all (line ∷ left) a b true lines told → Replied b c (answer_line answer) took → AnswersFirst all left a c took (lines ++ line ∷ []) (told ++ answer ∷ [])
  first_more before reply = record {
    first = before.first ∙ sym (append_assoc lines (line ∷ []) left);
    each = length-append told (answer ∷ []) ∙ ap (λ n. n + 1) before.each ∙ sym (length-append lines (line ∷ []));
    replied = subst (λ text. Replied a c text took) (sym (printed_more told answer))
        (replied_then took a b c (printed_answers told) (answer_line answer) before.replied reply);
    broken = λ broke. record {
      before = told;
      last = answer;
      mid = b;
      whole = refl;
      wrote = before.replied;
      failed = subst (λ t. Replied b c (answer_line answer) t) broke reply;
    };
  }

-- ---- what is told

any_more : (test : Answer → Bool) (told : List Answer) (a : Answer) → (list_any test told || test a) ≡ list_any test (told ++ a ∷ [])
any_more test told a = ap (λ t. list_any test told || t) (or_false (test a)) ∙ sym (list_any-append test told (a ∷ []))
  where
    or_false : (t : Bool) → t ≡ (t || false)
    or_false true = refl
    or_false false = refl

abbrev fault_more : Answer → ℕ → ℕ
fault_more a n = if is_disk_answer a then count_after n else n

faults_more : (told : List Answer) (a : Answer) (n : ℕ) → faults_told (told ++ a ∷ []) n ≡ fault_more a (faults_told told n)
faults_more [] a n = refl
faults_more (b ∷ told) a n = faults_more told a (fault_more b n)

not_fewer : (tells : Bool) (m n : ℕ) → m ≤ n → (if tells then count_after m else m) ≤ (if tells then count_after n else n)
not_fewer true m n fewer = omega (arith, fewer)
not_fewer false m n fewer = fewer

-- ---- all of it

module _ {A : Type 0} (g : Ghosts A) where
  none_falls_then : (m n : ℕ) (a b c : A) → NoneFalls g m a b → NoneFalls g n b c → NoneFalls g (m + n) a c
  none_falls_then m n a b c first second = record {
    failed = omega (arith, first.failed, second.failed);
    damaged = omega (arith, first.damaged, second.damaged);
    seed = second.seed ∙ first.seed;
    cylinders = second.cylinders ∙ first.cylinders;
    kept = omega (arith, first.kept, second.kept);
    drawn = omega (arith, first.drawn, second.drawn);
  }

  pub none_yet : (all : List (List ℕ)) (sink : Intake) (a : A) → HasAnswered g all all sink sink a a told_nothing
  none_yet all sink a = record {
    lines = [];
    told = [];
    answers_are = record { first = refl; each = refl; replied = nothing sink; broken = λ never. absurd (false≢true (sym never)) };
    count = refl;
    failed = refl;
    starved = refl;
    faults = omega arith;
    later = record { failed = omega arith; damaged = omega arith; seed = refl; cylinders = refl; kept = omega arith; drawn = omega arith };
    went = λ s stands none. (s, stands, none, Begun);
  }

  module _ (all left : List (List ℕ)) (line : List ℕ) (sink mid sink_after : Intake) (old now new : A) (told result : Told) where
    pub one_more : HasAnswered g all (line ∷ left) sink mid old now told → told.took ≡ true → AnswersOne g line told mid sink_after now new result
        → HasAnswered g all left sink sink_after old new result
    one_more has took one =
        let answer = one.answer in
        let drawn : 2 * length has.told + 2 ≡ 2 * length (has.told ++ answer ∷ []) = omega (arith, length-append has.told (answer ∷ [])) in
        record {
          lines = has.lines ++ line ∷ [];
          told = has.told ++ answer ∷ [];
          answers_are = first_more all left has.lines line has.told answer sink mid sink_after result.took
              (subst (λ t. AnswersFirst all (line ∷ left) sink mid t has.lines has.told) took has.answers_are) one.replied;
          count = ap (λ (t : Told). t.answers) one.told ∙ ap (λ n. n + 1) has.count ∙ sym (length-append has.told (answer ∷ []));
          failed = ap (λ (t : Told). t.failed) one.told ∙ ap (λ t. t || is_disk_answer answer) has.failed ∙ any_more is_disk_answer has.told answer;
          starved = ap (λ (t : Told). t.starved) one.told ∙ ap (λ t. t || is_memory_answer answer) has.starved ∙ any_more is_memory_answer has.told answer;
          faults =
              let before = not_fewer (is_disk_answer answer) (faults_told has.told (g.failed old)) (g.failed now) has.faults in
              let same = faults_more has.told answer (g.failed old) in
              omega (arith, before, same, one.spends.failed);
          later = subst (λ n. NoneFalls g n old new) drawn (none_falls_then (2 * length has.told) 2 old now new has.later one.spends.later);
          went = λ s stands none.
              let before = has.went s stands none in
              let after = one.serves before.0 before.1 before.2 in
              (after.0, after.1.stands, after.1.follows.grants ∙ before.2, After before.3 has.later.cylinders line answer after.1);
        }
