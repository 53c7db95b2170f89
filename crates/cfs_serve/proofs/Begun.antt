-- How a service begins, and what it comes to.
use Rattle.std.proofs.Common.{Result, Ok, Err, IfOk, ◌≡◌, ℕ, zero, suc, false, true, List, [], ◌∷◌, ◌++◌, length, map, Some, slice_get, refl, sym, ap, ◌∙◌, subst, arith}
use Rattle.cfs_serve.proofs.Logs.{begins, lasts_begins, told_begins}
use Rattle.cfs_serve.proofs.Keeping.{kept_begins}
use Rattle.ufs_model.specs.State.{opening}
use Rattle.cfs_serve.specs.Machine.{charter_of}
use Rattle.cfs_serve.specs.Service.{HasServed, IsServiceBegun, IsEndOf, IsServiceReady}
use Rattle.cfs_serve.specs.declared.served.Served.{Served}
use Rattle.cfs_serve.specs.declared.server.Server.{Ghosts}
use Rattle.cfs_trail.specs.Trail.{Recorded}
use Rattle.cfs_serve.proofs.Cited.{AllLeft, AreFresh, AreHeard, AreNew, AreOver, Event, Graph, IsFresh, IsLeave, IsSessionOver, IsSession, Puid, PortReading, Client, Terms, all_forms, append-nil, has_left_at, no_names, nothing, client_of, turns_from, turns_in}

-- ---- as it begins

pub fresh_session : (root : Puid) (i : ℕ) (client : Client) (p : PortReading) → IsFresh root client p → IsSession root i client p []
fresh_session root i client p is = record {
  leaves = [];
  split = refl;
  left = subst (λ b. IsLeave i b []) (sym is.new.stays) refl;
  turned = λ more. rw (is.new.names, is.lines) refl;
  counted = let none : length (turns_in i []) ≡ 0 = refl in omega (arith, none, ap length is.lines);
  ended = λ left. absurd (cc (left, is.new.stays));
  replied = rw (is.new.goes, is.sink) (nothing client.sink);
  broken = λ failed. absurd (cc (failed, is.new.goes));
}

pub fresh_heard : {A : Type 0} (t : Terms A) (ps : List PortReading) → AreFresh t ps → AreHeard t [] ps
fresh_heard t ps fresh = record {
  count = fresh.count;
  each = λ k client p client_is at. fresh_session t.root k client p (fresh.each k client p client_is at);
  none = λ k past. refl;
  sessions = λ none. refl;
}

length_clients : (ps : List PortReading) → length ps ≡ length (map client_of ps)
length_clients [] = refl
length_clients (p ∷ ps) = ap (λ n. suc n) (length_clients ps)

client_at : (ps : List PortReading) (k : ℕ) (client : Client) (p : PortReading) → slice_get (map client_of ps) k ≡ Some client → slice_get ps k ≡ Some p → client ≡ client_of p
client_at [] k client p client_is at = absurd (cc)
client_at (x ∷ ps) zero client p client_is at = cc (client_is, at)
client_at (x ∷ ps) (suc k) client p client_is at = client_at ps k client p client_is at

-- a charter that is made of the ports fits them
pub new_fresh : {A : Type 0} (t : Terms A) (ps : List PortReading) → t.clients ≡ map client_of ps → AreNew t.root ps → AreFresh t ps
new_fresh t ps is new = record {
  count = length_clients ps ∙ ap length (sym is);
  each = λ k client p client_is at.
      let same : client ≡ client_of p = client_at ps k client p (ap (λ w. slice_get w k) (sym is) ∙ client_is) at in
      let port = new k p at in
      record { lines = ap (λ (s : Client). s.lines) (sym same); sink = ap (λ (s : Client). s.sink) (sym same); new = port };
}

-- ---- what it comes to

session_over : (root : Puid) (i : ℕ) (client : Client) (p : PortReading) (trail : List Event) → p.has_left ≡ true → IsSession root i client p trail → IsSessionOver root trail i client p.sink p.failed
session_over root i client p trail left was =
    let leave : IsLeave i true was.leaves = subst (λ b. IsLeave i b was.leaves) left was.left in
    record {
      turns = sym (ap (λ es. turns_from all_forms i (no_names root) client.lines es) (sym (append-nil (turns_in i trail))) ∙ was.turned [] ∙ append-nil (turns_in i trail));
      answered = λ goes. omega (arith, was.counted, ap length (was.ended left goes));
      stopped = leave.0;
      leaves = was.split ∙ ap (λ w. turns_in i trail ++ w) leave.1;
      replied = was.replied;
      broken = was.broken;
    }

-- where each session has left
pub all_over : {A : Type 0} (t : Terms A) (trail : List Event) (ps : List PortReading) → AreHeard t trail ps → AllLeft ps → AreOver t.root t.collections t.clients trail ps
all_over t trail ps was left = record {
  count = was.count;
  each = λ k client p client_is at. session_over t.root k client p trail (sym (ap has_left_at at) ∙ left k) (was.each k client p client_is at);
  none = λ k past. was.none k (omega (arith, past, was.count));
  sessions = was.sessions;
}

-- ---- a service, by its charter

module _ {A : Type 0} (v : Ghosts A) (server : A) (ports : List PortReading) (collections : ℕ) where
  abbrev pub charter : Terms A
  charter = charter_of server (v.seed server) (v.cylinders server) (v.root server) collections ports

  pub begun_so : v.has_stopped server ≡ false → v.words server ≡ 0 → (v.tally server).called ≡ collections → ((v.tally server).finished ≡ 0) × ((v.tally server).running ≡ false)
      → ((graph : Graph) → v.stands server (opening graph) → (v.tally server).lost graph ≡ 0) → IsServiceBegun v charter server
  begun_so runs words called idle swept = record {
    opens = begins v.stands v.has_stopped v.is_damaged v.tally charter server refl swept;
    lasts = lasts_begins v.stands v.clock v.lasts charter server refl;
    told = told_begins v.faults v.has_stopped v.is_damaged charter server refl runs;
    kept = kept_begins v.clock v.has_stopped v.tally charter server refl idle;
    runs = runs;
    seed = refl;
    size = refl;
    words = words;
    called = called;
  }

  pub served_so : {K : Type 0} (s : Served A K) → IsEndOf v charter s → AllLeft s.ports.items → HasServed v server ports collections s
  served_so s is left = record {
    run = λ graph standing. is.run server graph refl standing;
    lasts = λ graph standing first. is.lasts server graph refl standing first;
    over = all_over charter s.trail.events s.ports.items is.heard left;
    later = is.ends.later server refl;
    ends = is.ends.since server refl;
    stop = is.stop;
    timed = is.timed;
    size = is.size;
    called = is.called;
    starved = is.starved;
    failed = is.failed;
    few = omega (arith, is.kept.few, is.called);
    tallied = is.kept.tallied;
    collected = is.collected;
    rise = is.kept.rise server refl;
    counted = is.counted.told server refl;
    stops = λ graph standing. is.counted.stops server graph refl standing;
  }

module _ {A : Type 0} (v : Ghosts A) (server : A) (trail : Recorded) (ports : List PortReading) (collections turns : ℕ) (ready : IsServiceReady v server trail ports collections turns) where
  pub begun : IsServiceBegun v (charter v server ports collections) server
  begun = begun_so v server ports collections ready.runs ready.words ready.called ready.idle ready.swept

  pub fresh : AreFresh (charter v server ports collections) ports
  fresh = new_fresh (charter v server ports collections) ports refl ready.new

  pub has_served : {K E : Type 0} (result : Result (Served A K) E) → IfOk result (IsEndOf v (charter v server ports collections)) → IfOk result (λ s. AllLeft s.ports.items) → IfOk result (HasServed v server ports collections)
  has_served (Ok s) is left = served_so v server ports collections s is left
  has_served (Err e) is left = tt
