-- A run that is followed line after line.
use Rattle.std.proofs.Common.{◌≡◌, ℕ, ◌+◌, ◌≤◌, List, [], ◌∷◌, ◌++◌, length, refl, sym, ap, subst, ◌∙◌, inr, arith, true, Some, None, length-append}
use Rattle.cfs_audit.proofs.Words.{EndsIn, Err, Event, IfOk, IsBad, IsFollowed, HasVerdict, IsLastLine, IsNoLine, IsVerdict, NoMemory, Ok, Opening, Result, Server, Verdict, and_from, append-nil, append_assoc, begun, ended, event_line, fits, flat_map, flat_map-append, fresh_graph, has_no_end, list_all, list_all-append, next, opening, opening_fits, opening_line, option_and_then, replay_from-push, root_of, status_line}
use Rattle.cfs_audit.specs.declared.trail.Verdict.TheVariants as verdicts
use Rattle.cfs_audit.proofs.Lines.{bad, unended_bad}

-- so many events were followed, up to what is left of the text
pub record IsAt (text rest : List ℕ) (o : Opening) (count : ℕ) (server : Server) : Type 0 where
  pub events : List Event
  pub followed : IsFollowed text rest o events server.state
  pub counted : count ≡ length events
  pub seed : server.seed ≡ o.seed
  pub drawn : server.state.drawn ≤ count
  pub few : count + length rest ≤ 268435456

pub at_first : (o : Opening) (rest : List ℕ) (server : Server) → opening_fits o ≡ true → length rest ≤ 268435456
    → server ≡ record { seed = o.seed; state = opening (fresh_graph (root_of o.seed)) } → IsAt (ended (opening_line o) ++ rest) rest o 0 server
at_first o rest server fits_so few is = rw is (record {
  events = [];
  followed = record { opened = fits_so; is = ap (λ t. t ++ rest) (sym (append-nil (ended (opening_line o)))); fitting = refl; allowed = refl };
  counted = refl;
  seed = refl;
  drawn = omega arith;
  few = omega arith;
})

module _ (text rest more : List ℕ) (o : Opening) (count : ℕ) (old new : Server) (event : Event) (h : IsAt text rest o count old) (fitting : fits event ≡ true)
    (line : rest ≡ event_line event ++ 10 ∷ more) where
  pub at_event : text ≡ begun o h.events ++ (ended (event_line event) ++ more)
  at_event = h.followed.is ∙ ap (λ t. begun o h.events ++ t) (line ∙ sym (append_assoc (event_line event) (10 ∷ []) more))

  pub at_next : next old.seed old.state event ≡ Some new.state → new.seed ≡ old.seed → new.state.drawn ≤ old.state.drawn + 1 → IsAt text more o (count + 1) new
  at_next allowed seed drawn = record {
    events = h.events ++ event ∷ [];
    followed = record {
      opened = h.followed.opened;
      is = at_event ∙ sym (append_assoc (begun o h.events) (ended (event_line event)) more)
          ∙ ap (λ t. t ++ more) (append_assoc (ended (opening_line o)) (flat_map (λ e. ended (event_line e)) h.events) (ended (event_line event))
          ∙ ap (λ t. ended (opening_line o) ++ t) (sym (flat_map-append (λ e. ended (event_line e)) h.events (event ∷ []) ∙ ap (λ t. flat_map (λ e. ended (event_line e)) h.events ++ t) (append-nil (ended (event_line event))))));
      fitting = list_all-append fits h.events (event ∷ []) ∙ and_from (list_all fits h.events) _ h.followed.fitting (and_from (fits event) true fitting refl);
      allowed = replay_from-push o.seed (opening (fresh_graph (root_of o.seed))) h.events event ∙ ap (option_and_then (λ u. next o.seed u event)) h.followed.allowed ∙ rw (← h.seed) allowed;
    };
    counted = let one = length-append h.events (event ∷ []) in let was = h.counted in omega (arith, one, was);
    seed = seed ∙ h.seed;
    drawn = let was = h.drawn in omega (arith, drawn, was);
    few = let was = h.few in let long : length rest ≡ length (event_line event) + length (10 ∷ more) = ap length line ∙ length-append (event_line event) (10 ∷ more) in omega (arith, was, long);
  }

-- the server at the beginning, with this word in the root's identifier
abbrev pub started : Opening → ℕ → Server
started o w = record { seed = o.seed; state = opening (fresh_graph (record { block = 2; word = w })) }

module _ (text rest : List ℕ) (o : Opening) (count : ℕ) (server : Server) (h : IsAt text rest o count server) where
  found : (v : Verdict) → EndsIn o.seed server.state rest (length h.events) v → HasVerdict text v
  found v is = record { o = o; events = h.events; s = server.state; rest = rest; followed = h.followed; ends = is }

  bad_here : IsBad rest → HasVerdict text (verdicts.BadLine (count + 2))
  bad_here is = found (verdicts.BadLine (count + 2)) (is, ap (λ n. n + 2) h.counted)

  pub broken_off : has_no_end rest ≡ true → HasVerdict text (verdicts.BadLine (count + 2))
  broken_off none = bad_here (unended_bad rest none)

  module _ (line more : List ℕ) (cut : rest ≡ line ++ 10 ∷ more) where
    pub illegal_here : (event : Event) → fits event ≡ true → line ≡ event_line event → next server.seed server.state event ≡ None → HasVerdict text (verdicts.Illegal (count + 1))
    illegal_here event fitting is none = found (verdicts.Illegal (count + 1)) (
      event,
      more,
      fitting,
      cut ∙ ap (λ l. l ++ 10 ∷ more) is ∙ sym (append_assoc (event_line event) (10 ∷ []) more),
      subst (λ (k : ℕ). next k server.state event ≡ None) h.seed none,
      ap (λ n. n + 1) h.counted,
    )

    module _ (clear : has_no_end line ≡ true) (none : IsNoLine line) where
      ended_so : (v : Verdict) → IsLastLine line more count v → IsVerdict text v
      ended_so (verdicts.Legal n) is = found (verdicts.Legal n)
          (is.0, is.1, cut ∙ ap (λ l. l ++ 10 ∷ more) is.2 ∙ ap (λ t. status_line is.0 ++ 10 ∷ t) is.3, is.4 ∙ h.counted)
      ended_so (verdicts.Illegal place) is = absurd is
      ended_so (verdicts.BadLine place) is = inr (subst (λ n. HasVerdict text (verdicts.BadLine n)) (sym is.1) (bad_here (subst IsBad (sym cut) (bad line more clear none is.0))))

      pub last_verdict : (r : Result Verdict NoMemory) → IfOk r (λ v. IsLastLine line more count v) → IfOk r (λ v. IsVerdict text v)
      last_verdict (Ok v) is = ended_so v is
      last_verdict (Err e) is = is
