-- What a run makes is within what the lines of its script ask for.
use Rattle.std.specs.Prelude.{◌≡◌, ◌<◌, ℕ, true, List, [], ◌∷◌, sum_by, refl}
use Rattle.std.specs.List.{list_all}
use Rattle.std.proofs.Common.{arith}
use Rattle.std.proofs.lemmas.List.Sums.{sum_by-cons}
use Rattle.spec_run.specs.declared.script.Call.TheVariants as call
use Rattle.spec_control.specs.Control.{begun}
use Rattle.control_laws.proofs.RootLemmas.{begun_kept}
use Rattle.spec_run.specs.declared.script.Call.{Call}
use Rattle.spec_run.specs.declared.script.ActorScript.{ActorScript}
use Rattle.spec_run.specs.declared.script.Line.{Line}
use Rattle.spec_run.specs.Script.{Script, line_tries}
use Rattle.replay_laws.specs.InTime.{line_sockets}
use Rattle.replay_laws.specs.Local.{is_local_item}
use Rattle.replay_laws.specs.LocalScript.{LocalScriptsRunLocally}
use Rattle.replay_laws.specs.DoneInTime.{RunsAreDoneInTime}
use Rattle.replay_laws.specs.ScriptBounds.{line_connects, ScriptsMakeSoMuch, ScriptsAreDoneInTime}
use Rattle.replay_laws.proofs.AskLemmas.{Weighs, weight_lines, weight_script, workers_ask}
use Rattle.replay_laws.proofs.CountLemmas.{order_asks}
use Rattle.replay_laws.proofs.MakeLemmas.{asks_socket, asks_connect, objects_over, brought_over}

socket_once : (line : Call) → 0 < line_sockets line → line_tries line ≡ 1
socket_once (call.Socket kind options) lt = refl
socket_once (call.Bind place at) lt = refl
socket_once (call.Connect place to) lt = refl
socket_once (call.Send place m) lt = refl
socket_once (call.Recv place tries) lt = absurd (omega (arith, lt))
socket_once (call.Subscribe place topic) lt = refl
socket_once (call.Unsubscribe place topic) lt = refl
socket_once (call.Unbind place at) lt = refl
socket_once (call.Disconnect place at) lt = refl
socket_once (call.Close place) lt = refl
socket_once call.Term lt = refl

connect_once : (line : Call) → 0 < line_connects line → line_tries line ≡ 1
connect_once (call.Socket kind options) lt = refl
connect_once (call.Bind place at) lt = refl
connect_once (call.Connect place to) lt = refl
connect_once (call.Send place m) lt = refl
connect_once (call.Recv place tries) lt = absurd (omega (arith, lt))
connect_once (call.Subscribe place topic) lt = refl
connect_once (call.Unsubscribe place topic) lt = refl
connect_once (call.Unbind place at) lt = refl
connect_once (call.Disconnect place at) lt = refl
connect_once (call.Close place) lt = refl
connect_once call.Term lt = refl

sockets_weigh : Weighs asks_socket line_sockets
sockets_weigh = record {
  sockets = λ kind options. omega arith;
  binds = λ o place at. omega arith;
  connects = λ o place to. omega arith;
  unbinds = λ o place at. omega arith;
  disconnects = λ o place at. omega arith;
  closes = λ o. refl;
  terms = refl;
  once = socket_once;
}

connects_weigh : Weighs asks_connect line_connects
connects_weigh = record {
  sockets = λ kind options. omega arith;
  binds = λ o place at. omega arith;
  connects = λ o place to. omega arith;
  unbinds = λ o place at. omega arith;
  disconnects = λ o place at. omega arith;
  closes = λ o. refl;
  terms = refl;
  once = connect_once;
}

-- the weight of a script is a sum over its actors
lines_sum : (v : Call → ℕ) (lines : List Line) → weight_lines v lines ≡ sum_by (λ line. v line.call) lines
lines_sum v [] = refl
lines_sum v (line ∷ lines) = let rest = lines_sum v lines in let all = sum_by-cons (λ (l : Line). v l.call) line lines in omega (arith, rest, all)

script_sum : (v : Call → ℕ) (script : Script) → weight_script v script ≡ sum_by (λ actor. sum_by (λ line. v line.call) actor.lines) script
script_sum v [] = refl
script_sum v (actor ∷ script) =
    let own = lines_sum v actor.lines in
    let rest = script_sum v script in
    let all = sum_by-cons (λ (a : ActorScript). sum_by (λ (line : Line). v line.call) a.lines) actor script in omega (arith, own, rest, all)

module _ (N S : Type 0) (run_locally : LocalScriptsRunLocally N S) where
  pub make_so_much : ScriptsMakeSoMuch N S
  make_so_much script schedule j is plain =
      let local_so : list_all is_local_item is.run.order ≡ true = run_locally script 1 schedule.turns schedule.seed is.turned is.run is.in_turns is.one_thread plain in
      let objects = objects_over is.run.order (begun 1) (begun_kept 1) is.is_run.control local_so in
      let pairs = brought_over is.run.order (begun 1) (begun_kept 1) is.is_run.control local_so in
      let sockets = order_asks asks_socket is.run.order (begun 1) is.run.workers is.is_run.told is.is_run.nobody_else in
      let of_sockets = workers_ask asks_socket line_sockets sockets_weigh script 1 is.run.workers is.is_run.«local» in
      let all_sockets = script_sum line_sockets script in
      let connects = order_asks asks_connect is.run.order (begun 1) is.run.workers is.is_run.told is.is_run.nobody_else in
      let of_connects = workers_ask asks_connect line_connects connects_weigh script 1 is.run.workers is.is_run.«local» in
      let all_connects = script_sum line_connects script in
      (omega (arith, objects, sockets, of_sockets, all_sockets), omega (arith, pairs, connects, of_connects, all_connects))

pub done_by_script : (N S : Type 0) → ScriptsMakeSoMuch N S → RunsAreDoneInTime N S → ScriptsAreDoneInTime N S
done_by_script N S make in_time script schedule j is plain enough =
    let so = make script schedule j is plain in
    let objects = so.0 in
    let pairs = so.1 in
    in_time script schedule j is plain (omega (arith, objects, pairs, enough))
