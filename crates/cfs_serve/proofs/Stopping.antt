-- Why a server stopped, as its trail tells it.
use Rattle.std.proofs.Common.{◌≡◌, ℕ, Bool, false, List, [], ◌∷◌, ◌++◌, Option, Some, None, is_some, refl, sym, ap, ◌∙◌, subst, append_assoc}
use Rattle.cfs_serve.specs.Ending.{AreStoppedReplies, KnowsStop, MakesStop, stopped_with}
use Rattle.ufs_model.specs.declared.asked.Unread.{Unread}
use Rattle.cfs_serve.proofs.Cited.{CollectFault, Damage, Event, Stop, StopsAmong, TellsStop, append-nil, damage_in, list_any, option_to_list, moment_in, stops_in, tells_damage, told_stop}
use Rattle.cfs_core.specs.declared.collecting.CollectFault.TheVariants as faults
use Rattle.ufs_model.specs.declared.asked.Event.TheVariants as events
use Rattle.ufs_model.specs.declared.asked.Reply.TheVariants as replies
use Rattle.cfs_serve.proofs.Logs.{or_false}

-- ---- lists of stops

stops_append : (d : Option Damage) (xs ys : List Event) → stops_in d (xs ++ ys) ≡ stops_in d xs ++ stops_in d ys
stops_append d [] ys = refl
stops_append d (x ∷ xs) ys =
    ap (λ l. option_to_list (told_stop d x) ++ l) (stops_append d xs ys) ∙ sym (append_assoc (option_to_list (told_stop d x)) (stops_in d xs) (stops_in d ys))

no_parts : (xs ys : List Stop) → xs ++ ys ≡ [] → (xs ≡ []) × (ys ≡ [])
no_parts [] ys none = (refl, none)
no_parts (x ∷ xs) ys none = absurd (cc none)

-- an event that tells none tells none with whatever damage
none_told : (a b : Option Damage) (e : Event) → option_to_list (told_stop a e) ≡ [] → option_to_list (told_stop b e) ≡ []
none_told a b (events.Ask who request reply) none = none
none_told a b (events.Leave who (Some moment)) none = absurd (cc none)
none_told a b (events.Halted moment) none = absurd (cc none)
none_told a b e none = refl

none_in : (a b : Option Damage) (trail : List Event) → stops_in a trail ≡ [] → stops_in b trail ≡ []
none_in a b [] none = refl
none_in a b (e ∷ trail) none =
    let two = no_parts (option_to_list (told_stop a e)) (stops_in a trail) none in
    rw (none_told a b e two.0, none_in a b trail two.1) refl

-- ---- calls

-- a server that stopped stays so
pub stays : (before after : Option Stop) (made : List Event) → StopsAmong before after made → (s : Stop) → before ≡ Some s → after ≡ Some s
stays before None made stops s is = absurd (cc (rw is at stops))
stays before (Some t) made stops s is = ap (λ (x : Stop). Some x) (first t s (stops_in t.damage made) (rw is at stops))
  where
    first : (x y : Stop) (rest : List Stop) → x ∷ [] ≡ y ∷ rest → x ≡ y
    first x y rest e = cc e

-- so it is with the whole trail
pub stops_on : (old new : Option Stop) (trail made : List Event) → StopsAmong None old trail → StopsAmong old new made → StopsAmong None new (trail ++ made)
stops_on None new trail made was one =
    one ∙ rw (stops_append (damage_in new) trail made, none_in None (damage_in new) trail (sym was)) refl
stops_on (Some s) new trail made was one =
    let same : new ≡ Some s = stays (Some s) new made one s refl in
    subst (λ o. StopsAmong None o (trail ++ made)) (sym same)
    (subst (λ o. StopsAmong (Some s) o made) same one ∙ ap (λ l. l ++ stops_in s.damage made) was ∙ sym (stops_append s.damage trail made))

-- ---- replies that it has stopped

-- the moment that is told is the same, whatever damage was met
told_alike : (a b : Option Damage) (e : Event) → moment_in (told_stop a e) ≡ moment_in (told_stop b e)
told_alike a b (events.Ask who request reply) = refl
told_alike a b (events.Leave who (Some moment)) = refl
told_alike a b (events.Halted moment) = refl
told_alike a b e = refl

-- the moment of the stop after all of these
stopped_along : Option ℕ → List Event → Option ℕ
stopped_along o [] = o
stopped_along o (e ∷ trail) = stopped_along (stopped_with o e) trail

stays_stopped : (moment : ℕ) (trail : List Event) → stopped_along (Some moment) trail ≡ Some moment
unfolding stopped_along
stays_stopped moment [] = refl
stays_stopped moment (e ∷ trail) = stays_stopped moment trail

-- the first of some stops, if there is one
told_first : (o s : Option Stop) (rest : List Stop) (trail : List Event) → option_to_list s ≡ option_to_list o ++ rest
    → (option_to_list s ≡ rest → stopped_along None trail ≡ moment_in s) → stopped_along (moment_in o) trail ≡ moment_in s
told_first None s rest trail is later = later is
told_first (Some x) None rest trail is later = absurd (cc is)
told_first (Some x) (Some y) rest trail is later = stays_stopped x.moment trail ∙ ap (λ (z : Stop). Some z.moment) (head rest is)
  where
    head : (rest : List Stop) → y ∷ [] ≡ x ∷ rest → x ≡ y
    head rest same = cc same

-- it is the one that the trail tells
along_is : (d : Option Damage) (s : Option Stop) (trail : List Event) → option_to_list s ≡ stops_in d trail → stopped_along None trail ≡ moment_in s
unfolding stopped_along
along_is d None [] is = refl
along_is d (Some s) [] is = absurd (cc is)
along_is d s (e ∷ trail) is =
    rw (told_alike None d e) (told_first (told_stop d e) s (stops_in d trail) trail is (along_is d s trail))

replies_append : (o : Option ℕ) (trail made : List Event) → AreStoppedReplies o trail → AreStoppedReplies (stopped_along o trail) made → AreStoppedReplies o (trail ++ made)
unfolding stopped_along
replies_append o [] made was one = one
replies_append o (e ∷ trail) made was one = (was.0, replies_append (stopped_with o e) trail made was.1 one)

-- so it is with all that is known of why it stopped
pub knows_on : {A : Type 0} (clock : A → ℕ) (stop : A → Option Stop) (old new : A) (trail made : List Event) → KnowsStop clock stop old trail → MakesStop clock stop old new made
    → KnowsStop clock stop new (trail ++ made)
knows_on clock stop old new trail made was one = record {
  among = stops_on (stop old) (stop new) trail made was.among one.among;
  after = replies_append None trail made was.after (rw (along_is (damage_in (stop old)) (stop old) trail was.among) one.after);
  timed = one.timed was.timed;
}

-- by a call that makes none, and leaves the stop and the clock as they are
pub knows_rests : {A : Type 0} (clock : A → ℕ) (stop : A → Option Stop) (old new : A) (trail : List Event) → KnowsStop clock stop old trail → stop new ≡ stop old → clock new ≡ clock old
    → KnowsStop clock stop new trail
knows_rests clock stop old new trail was same still = record {
  among = rw same was.among;
  after = was.after;
  timed = rw (same, still) was.timed;
}

-- a call that makes no event, or one that tells no stop
pub stops_still : (stop : Option Stop) → StopsAmong stop stop []
stops_still stop = sym (append-nil (option_to_list stop))

pub stops_calm : (stop : Option Stop) (e : Event) → option_to_list (told_stop (damage_in stop) e) ≡ [] → StopsAmong stop stop (e ∷ [])
stops_calm stop e none = sym (rw none (append-nil (option_to_list stop)))

-- a line that is no request
pub knows_unread : {A : Type 0} (clock : A → ℕ) (stop : A → Option Stop) (server : A) (who : ℕ) (why : Unread) → MakesStop clock stop server server (events.Unread who why ∷ [])
knows_unread clock stop server who why = record { among = stops_calm (stop server) (events.Unread who why) refl; after = (tt, tt); timed = λ timed. timed }

-- what the collector was refused tells the stop still
pub tells_on : (refused : Option CollectFault) (old new : Option Stop) → ((s : Stop) → old ≡ Some s → new ≡ Some s) → TellsStop refused old → TellsStop refused new
tells_on None old new on tells = tt
tells_on (Some faults.Memory) old new on tells = tt
tells_on (Some (faults.Disk None)) old new on tells = tt
tells_on (Some (faults.Disk (Some moment))) old new on tells = on _ tells
tells_on (Some (faults.Damaged damage moment)) old new on tells = on _ tells
tells_on (Some (faults.Stopped moment)) old new on tells = tt

-- ---- as it is told

pub stop_again : (stop : Option Stop) (moment : ℕ) → moment_in stop ≡ Some moment → Some (record { moment = moment; damage = damage_in stop }) ≡ stop
stop_again None moment is = absurd (cc is)
stop_again (Some s) moment is = ap (λ m. Some (record { moment = m; damage = s.damage })) (first moment s.moment (sym is))
  where
    first : (x y : ℕ) → Some x ≡ Some y → x ≡ y
    first x y e = cc e

pub stop_none : (stop : Option Stop) → moment_in stop ≡ None → stop ≡ None
stop_none None is = refl
stop_none (Some s) is = absurd (cc is)

-- ---- damage

abbrev is_damage : Stop → Bool
is_damage stop = is_some stop.damage

any_parts : (o : Option Stop) (rest : List Stop) → list_any is_damage (option_to_list o ++ rest) ≡ false
    → (list_any is_damage (option_to_list o) ≡ false) × (list_any is_damage rest ≡ false)
any_parts None rest isnt = (refl, isnt)
any_parts (Some s) rest isnt = let two = or_false (is_damage s) (list_any is_damage rest) isnt in (rw two.0 refl, two.1)

told_undamaged : (e : Event) → list_any is_damage (option_to_list (told_stop None e)) ≡ false → tells_damage e ≡ false
told_undamaged (events.Ask who request (replies.Damaged damage moment)) isnt = absurd (cc isnt)
told_undamaged e isnt = refl

all_undamaged : (trail : List Event) → list_any is_damage (stops_in None trail) ≡ false → list_any tells_damage trail ≡ false
all_undamaged [] isnt = refl
all_undamaged (e ∷ trail) isnt =
    let two = any_parts (told_stop None e) (stops_in None trail) isnt in
    rw (told_undamaged e two.0, all_undamaged trail two.1) refl

-- where the server stopped at no damage none is told
pub undamaged : (stop : Option Stop) (trail : List Event) → damage_in stop ≡ None → StopsAmong None stop trail → list_any tells_damage trail ≡ false
undamaged None trail none stops = all_undamaged trail (rw (← stops) refl)
undamaged (Some s) trail none stops =
    let same : stops_in None trail ≡ s ∷ [] = ap (λ d. stops_in d trail) (sym none) ∙ sym stops in
    all_undamaged trail (rw (same, none) refl)
