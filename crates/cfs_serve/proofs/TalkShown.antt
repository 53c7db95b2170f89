-- What a conversation shows of the cause that is told.
use Rattle.std.proofs.Common.{◌≡◌, inl, inr, ℕ, ◌<◌, ◌||◌, Bool, true, false, not, List, [], ◌∷◌, ◌++◌, length, Option, Some, None, IsNone, IsSome, refl, sym, ap, ◌∙◌, subst, arith, length-append}
use Rattle.std.proofs.lemmas.List.{append_assoc}
use Rattle.cfs_serve.proofs.Cited.{Cause, Counts, EachSink, EachSource, Ending, Event, Ground, HasNone, IsSessionOver, IsStopTold, Outside, PortReading, Replied, Report, RoseIn, SomeRose, Supply, Wrote, client_of, has_broken, has_failed, is_calm, is_short, list_all, list_any, most_lines, printed_replies, request_lines, sink_faults, source_faults, turns_in, wants_memory}
use Rattle.cfs_ports.specs.Lines.{joined_lines}
use Rattle.cfs_serve.specs.declared.report.Cause.TheVariants as causes
use Rattle.cfs_serve.specs.declared.talk.TalkEnd.{TalkEnd}
use Rattle.cfs_serve.specs.declared.talk.TalkEnd.TheVariants as ends
use Rattle.cfs_serve.specs.Conversed.{HasLongLine, HasMoreLines, IsOverTalk, IsWithinTalks}
use Rattle.cfs_serve.specs.Names.{places_in}
use Rattle.cfs_serve.specs.Played.{IsPlayed}
use Rattle.cfs_serve.specs.Talk.{BeginsTooLong, HasConversed, HasHeard, IsTalk, IsTalkEnd, IsUnopenedCause, end_or, talk_cause}
use Rattle.cfs_serve.specs.Whole.{HaveConversed}
use Rattle.cfs_serve.proofs.Endings.{Shown, shown, went_well}
use Rattle.cfs_serve.proofs.Lists.{each_one}
use Rattle.cfs_serve.proofs.Logs.{or_false, or_true}
use Rattle.cfs_serve.proofs.NoneServed.{clash, clash-sym}

-- ---- what a cause shows

module _ (ground : Ground) (old new : Outside) (counts : Option Counts) (trail : List Event) where
  -- each request line of the source has its one reply in the sink
  pub record AllReplied : Type 0 where
    pub served : IsSome counts
    pub answered : EachSource (λ session source _. (left : List ℕ) → source.left ≡ Some left → length (turns_in session trail) ≡ length (request_lines left)) old new
    pub replied : EachSink (λ session sink sink_after. Wrote sink sink_after (printed_replies session trail)) old new
    pub memory : list_any wants_memory trail ≡ false
    pub calm : list_all is_calm trail ≡ true

  -- a limit was passed
  abbrev PastLimit : Cause → Type 0
  PastLimit cause = IsSome counts × EachSource (λ _ source _. (left : List ℕ) → source.left ≡ Some left → IsOverTalk cause left) old new × ¬ (IsWithinTalks old new)

  abbrev pub Why : Cause → Type 0
  Why causes.Nothing = AllReplied
  Why (causes.Volume fault) = HasNone ground × (IsNone counts → ground.faulty fault)
  Why (causes.Disk moment) = RoseIn old.disk new.disk
  Why causes.Sink = IsSome counts × SomeRose (sink_faults old) (sink_faults new)
  Why (causes.Source n) = (n ≡ 0) × IsSome counts × SomeRose (source_faults old) (source_faults new)
  Why causes.Memory = Unit {0}
  Why (causes.Long n) = PastLimit (causes.Long n)
  Why causes.LongTotal = PastLimit causes.LongTotal
  Why cause = ⊥

-- ---- a text and its beginning

-- what begins with too long a line does so with more behind it
pub long_on : (bytes more : List ℕ) → BeginsTooLong bytes → BeginsTooLong (bytes ++ more)
long_on bytes more is = record {
  begun = is.begun;
  more = is.more ++ more;
  split = ap (λ l. l ++ more) is.split ∙ append_assoc is.begun is.more more;
  within = is.within;
  long = is.long;
}

module _ (source source_after : Supply) (heard : List (List ℕ)) (rest : List ℕ) (has : HasHeard source source_after heard rest) (left : List ℕ) (is : source.left ≡ Some left) where
  abbrev first : List ℕ
  first = joined_lines has.lines ++ has.last

  -- what it has left now, and what it had
  abbrev behind : List ℕ
  behind = (has.gave.first left is).0

  split : left ≡ first ++ (rest ++ behind)
  split = (has.gave.first left is).2 ∙ append_assoc first rest behind

  pub long_line : BeginsTooLong rest → HasLongLine left
  long_line long = record { before = first; line = rest ++ behind; split = split; long = long_on rest behind long }

  pub more_lines : length has.lines ≡ most_lines → 0 < length rest → HasMoreLines left
  more_lines count some = record {
    lines = has.lines;
    rest = has.last ++ (rest ++ behind);
    whole = has.whole;
    count = count;
    split = split ∙ append_assoc (joined_lines has.lines) has.last (rest ++ behind);
    more = omega (arith, some, length-append has.last (rest ++ behind), length-append rest behind);
  }

-- ---- a conversation was had

-- the one port's sink failed, or not
one_broken : (p : PortReading) → has_broken (p ∷ []) ≡ true → p.failed ≡ true
one_broken p is = elim (or_true p.failed false is) [
  | inl broken ↦ broken
  | inr none ↦ absurd (clash-sym none)
]

module _ (ground : Ground) (seed every : ℕ) (old new : Outside) (told : Report) (ending : Ending) (trail : List Event) (have : HaveConversed ground seed every (places_in old) (places_in new) told ending trail) where
  abbrev conversed : HasConversed ground seed every (RoseIn old.disk new.disk) have.source have.source_after have.sink have.sink_after have.end have.counts have.cause ending trail
  conversed = have.conversed

  abbrev talk : IsTalk every have.source have.source_after have.sink have.end conversed.port conversed.after conversed.collections ending trail
  talk = conversed.talk

  abbrev played : IsPlayed ground seed conversed.collections (RoseIn old.disk new.disk) (client_of conversed.port ∷ []) (conversed.after ∷ []) have.counts have.cause ending trail
  played = conversed.played

  abbrev over : IsSessionOver played.root trail 0 (client_of conversed.port) conversed.after.sink conversed.after.failed
  over = played.over.each 0 (client_of conversed.port) conversed.after refl refl

  at_source : (holds : ℕ → Supply → Supply → Type 0) → holds 0 have.source have.source_after → EachSource holds old new
  at_source holds is = each_one holds old.sources new.sources have.source have.source_after have.sources_are.0 have.sources_are.1 is

  -- its sink has taken the replies
  replied : Replied have.sink have.sink_after (printed_replies 0 trail) (not conversed.after.failed)
  replied = subst (λ s. Replied s have.sink_after (printed_replies 0 trail) (not conversed.after.failed)) talk.sink_is
      (subst (λ s. Replied conversed.port.sink s (printed_replies 0 trail) (not conversed.after.failed)) conversed.sink_after_is over.replied)

  replied_by : (b : Bool) → conversed.after.failed ≡ b → Replied have.sink have.sink_after (printed_replies 0 trail) (not b)
  replied_by b is = subst (λ f. Replied have.sink have.sink_after (printed_replies 0 trail) (not f)) is replied

  abbrev WhyTold : Cause → Type 0
  WhyTold cause = Why ground old new (Some have.counts) trail cause

  -- ---- by what ended it

  abbrev Ends : TalkEnd → Type 0
  Ends end = IsTalkEnd end have.source have.source_after (joined_lines talk.heard.lines ++ talk.heard.last) talk.rest (length talk.heard.lines) conversed.after.failed

  all_replied : Ends ends.Ended → list_any wants_memory trail ≡ false → list_all is_calm trail ≡ true → AllReplied ground old new (Some have.counts) trail
  all_replied ended memory calm = record {
    served = refl;
    answered = at_source (λ session source _. (left : List ℕ) → source.left ≡ Some left → length (turns_in session trail) ≡ length (request_lines left))
        (λ left is. over.answered ended.2 ∙ ap length (sym talk.heard.heard_are) ∙ ap (λ text. length (request_lines text)) (sym (ended.1 left is)));
    replied = each_one (λ session sink sink_after. Wrote sink sink_after (printed_replies session trail)) old.sinks new.sinks have.sink have.sink_after have.sinks_are.0 have.sinks_are.1 (replied_by false ended.2);
    memory = memory;
    calm = calm;
  }

  source_rose : Ends ends.Failed → WhyTold (causes.Source 0)
  source_rose failed = (refl, refl, rw (have.sources_are.0, have.sources_are.1) (inl failed.0))

  too_long : Ends ends.Long → WhyTold (causes.Long 0)
  too_long long =
      let line : (left : List ℕ) → have.source.left ≡ Some left → HasLongLine left = λ left is. long_line have.source have.source_after conversed.port.lines talk.rest talk.heard left is long.0 in (
        refl,
        at_source (λ _ source _. (left : List ℕ) → source.left ≡ Some left → IsOverTalk (causes.Long 0) left) (λ left is. (refl, line left is)),
        (λ within. let one = rw (have.sources_are.0, have.sources_are.1) at within in one.0.2.short (line one.0.0 one.0.1)),
      )

  too_many : Ends ends.LongTotal → WhyTold causes.LongTotal
  too_many total =
      let lines : (left : List ℕ) → have.source.left ≡ Some left → HasMoreLines left = λ left is. more_lines have.source have.source_after conversed.port.lines talk.rest talk.heard left is total.0 total.1 in (
        refl,
        at_source (λ _ source _. (left : List ℕ) → source.left ≡ Some left → IsOverTalk causes.LongTotal left) lines,
        (λ within. let one = rw (have.sources_are.0, have.sources_are.1) at within in one.0.2.few (lines one.0.0 one.0.1)),
      )

  -- a source that failed or passed a limit is told over this
  by_end : (cause : Cause) (end : TalkEnd) → Ends end → (Ends ends.Ended → WhyTold cause) → (Ends ends.Broken → WhyTold cause) → WhyTold (end_or cause end)
  by_end cause ends.Ended is ended broken = ended is
  by_end cause ends.Broken is ended broken = broken is
  by_end cause ends.Failed is ended broken = source_rose is
  by_end cause ends.Long is ended broken = too_long is
  by_end cause ends.LongTotal is ended broken = too_many is

  -- ---- by its cause

  why_by : (cause : Cause) → have.cause ≡ cause → Shown (has_failed ending trail) (has_broken (conversed.after ∷ [])) (list_any wants_memory trail || is_short ending) cause → WhyTold (talk_cause cause have.end)
  why_by causes.Nothing same is =
      let well = went_well ending trail (has_broken (conversed.after ∷ [])) played.ends.refusal (sym played.spoiled ∙ same) in
      by_end causes.Nothing have.end talk.ends (λ ended. all_replied ended well.memory (played.ends.calm well.runs well.disk))
      (λ broken. absurd (clash (sym broken ∙ (or_false conversed.after.failed false is.1).0)))
  why_by causes.Memory same is = by_end causes.Memory have.end talk.ends (λ ended. tt) (λ broken. tt)
  why_by (causes.Disk moment) same is = played.ends.failed is
  why_by (causes.Volume fault) same is = (
    (λ graph reads. subst (λ c. IsStopTold c (played.run graph reads).last.stopped) same (played.run graph reads).stop),
    (λ none. absurd (clash none)),
  )
  why_by causes.Sink same is = (refl, rw (have.sinks_are.0, have.sinks_are.1) (inl (replied_by true (one_broken conversed.after is)).failed))
  why_by cause same is = absurd is

  pub conversed_why : WhyTold (talk_cause have.cause have.end)
  conversed_why = why_by have.cause refl (subst (Shown (has_failed ending trail) (has_broken (conversed.after ∷ [])) (list_any wants_memory trail || is_short ending)) (sym played.spoiled) (shown ending trail (has_broken (conversed.after ∷ []))))

-- ---- none was had

module _ (ground : Ground) (old new : Outside) (trail : List Event) where
  pub none_why : (cause : Cause) → IsUnopenedCause ground (RoseIn old.disk new.disk) cause → Why ground old new None trail cause
  none_why (causes.Volume fault) is = (is.0, (λ none. is.1))
  none_why (causes.Disk moment) is = is.1
  none_why causes.Memory is = tt
  none_why cause is = absurd is

pub not_nothing : (ground : Ground) (rose : Type 0) (cause : Cause) → IsUnopenedCause ground rose cause → ¬ (cause ≡ causes.Nothing)
not_nothing ground rose causes.Nothing is same = is
not_nothing ground rose cause is same = cc same
