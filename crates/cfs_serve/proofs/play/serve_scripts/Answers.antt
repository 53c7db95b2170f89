use Rattle.std.proofs.Common.{◌∙◌, ◌≡◌, ◌⊎◌, ℕ, List, ap, map, length, inl, inr, sym, subst, arith}
use Rattle.cfs_serve.proofs.Cited.{AreNew, Ending, Event, Ghosts, Intake, IsUnserved, Kernel, PortReading, Report, ServesScripts, ServesSessions, length-map, request_lines, client_of}
use Rattle.cfs_serve.proofs.Lists.{new_work, same_length, client_lines, client_sinks}
use Rattle.cfs_serve.proofs.play.serve_scripts.Goals as goal

-- as many ports as scripts, before and after
as_many : (before after : List PortReading) (scripts : List (List ℕ)) → map (λ p. p.lines) before ≡ map request_lines scripts → length after ≡ length (map client_of before)
    → length after ≡ length scripts
as_many before after scripts lines count = count ∙ length-map before client_of ∙ same_length (λ (p : PortReading). p.lines) request_lines before scripts lines

pub returns-in_default-make_ports-clause-count : goal.returns-in_default-make_ports-clause-count
returns-in_default-make_ports-clause-count g c =
    same_length g.K.Sink.intake g.K.Sink.intake c.make_ports.new.sinks.items c.args.sinks.now.items c.in_default-make_ports.ensures.none

-- there are as many ports as before
module _ {D : Type 0} (g : Ghosts D) (core : Kernel D) (collections : ℕ) (before after : List PortReading) (report : Report) (ending : Ending) (trail : List Event) (moments : List ℕ) (disk : D) where
  abbrev Ended : Type 0
  Ended = ServesSessions g core collections (map client_of before) after report ending trail moments disk ⊎ IsUnserved core before after report ending trail disk

  same_count : Ended → length after ≡ length (map client_of before)
  same_count (inl s) = s.played.over.count
  same_count (inr u) = ap length u.ports ∙ sym (length-map before client_of)

  serves : (scripts : List (List ℕ)) (sinks left : List Intake) → map (λ p. p.lines) before ≡ map request_lines scripts → map (λ p. p.sink) before ≡ sinks
      → left ≡ map (λ p. p.sink) after → Ended → ServesScripts g core collections scripts sinks left report ending trail moments disk
  serves scripts sinks left lines begun is (inl s) = inl (record {
    clients = map client_of before;
    ports = after;
    matched = record { lines = client_lines before ∙ lines; begun = client_sinks before ∙ begun; left = sym is };
    serves = s;
  })
  serves scripts sinks left lines begun is (inr u) = inr (
    record { no_event = u.no_event; no_end = u.no_end; untouched = is ∙ ap (map (λ p. p.sink)) u.ports ∙ begun; told = u.told },
    u.disk_is,
  )

-- the ports' turns are the lines, and a leave each
pub serve_ports-played-requires-clause-turns : goal.serve_ports-played-requires-clause-turns
serve_ports-played-requires-clause-turns g c =
    let made = c.in-Some.ensures in
    let work = new_work c.root.result c.in-Some.ports.items c.args.scripts.scripts.items made.new made.lines in
    omega (arith, work, c.requires.lines, c.requires.count)

pub serve_ports-played-requires-clause-few : goal.serve_ports-played-requires-clause-few
serve_ports-played-requires-clause-few g c = omega (arith, c.requires.fits, c.requires.count, c.requires.sessions, c.requires.most)

pub serve_ports-played-requires-clause-sessions : goal.serve_ports-played-requires-clause-sessions
serve_ports-played-requires-clause-sessions g c =
    let made = c.in-Some.ensures in
    omega (arith, same_length (λ (p : PortReading). p.lines) request_lines c.in-Some.ports.items c.args.scripts.scripts.items made.lines, c.requires.count, c.requires.sessions)

pub serve_ports-played-requires-clause-new : goal.serve_ports-played-requires-clause-new
serve_ports-played-requires-clause-new g c = λ lifetimes outlives. subst (λ r. AreNew r c.in-Some.ports.items) c.root.ensures c.in-Some.ensures.new

pub take_sinks-requires-clause-room : goal.take_sinks-requires-clause-room
take_sinks-requires-clause-room g c =
    let made = c.in-Some.ensures in
    let after = c.serve_ports-played in
    let count = same_count g.D.Disk c.args.core c.args.schedule.collections c.in-Some.ports.items after.result.1.items after.result.0.report after.result.0.ending after.result.0.trail.events after.result.0.trail.moments after.result.2 after.ensures in
    omega (arith, as_many c.in-Some.ports.items after.result.1.items c.args.scripts.scripts.items made.lines count, c.requires.count, made.room)

pub returns-clause-served : goal.returns-clause-served
returns-clause-served g c =
    let made = c.in-Some.ensures in
    let after = c.serve_ports-played in
    serves g.D.Disk c.args.core c.args.schedule.collections c.in-Some.ports.items after.result.1.items after.result.0.report after.result.0.ending after.result.0.trail.events after.result.0.trail.moments after.result.2
    c.args.scripts.scripts.items (map g.K.Sink.intake c.args.sinks.now.items) (map g.K.Sink.intake c.take_sinks.new.sinks.items) made.lines made.sinks c.take_sinks.ensures after.ensures

pub returns-clause-count : goal.returns-clause-count
returns-clause-count g c =
    let after = c.serve_ports-played in
    let count = same_count g.D.Disk c.args.core c.args.schedule.collections c.in-Some.ports.items after.result.1.items after.result.0.report after.result.0.ending after.result.0.trail.events after.result.0.trail.moments after.result.2 after.ensures in
    same_length g.K.Sink.intake (λ (p : PortReading). p.sink) c.take_sinks.new.sinks.items after.result.1.items c.take_sinks.ensures
    ∙ as_many c.in-Some.ports.items after.result.1.items c.args.scripts.scripts.items c.in-Some.ensures.lines count ∙ c.requires.count
