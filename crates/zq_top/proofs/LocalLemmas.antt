-- A script that is read binds and connects over inproc alone.
use Rattle.std.proofs.Common.{◌≡◌, ◌∷◌, [], List, true, refl}
use Rattle.std.proofs.lemmas.Bool.{and_from}
use Rattle.zq_base.specs.declared.endpoint.Endpoint.{Endpoint}
use Rattle.zq_base.specs.declared.endpoint.Endpoint.TheVariants.{Inproc, Tcp}
use Rattle.spec_run.specs.declared.script.Call.{Call}
use Rattle.spec_run.specs.declared.script.Call.TheVariants as call
use Rattle.spec_run.specs.declared.script.Line.{Line}
use Rattle.spec_run.specs.Script.{Script}
use Rattle.zq_world.specs.MayAsk.{IsLocal, MayAskLine, MayAskLines, MayAskScript}
use Rattle.replay_laws.specs.Local.{is_inproc}
use Rattle.replay_laws.specs.LocalScript.{is_local_line, are_local_lines, is_local_script}

local_at : (at : Endpoint) → IsLocal at → is_inproc at ≡ true
local_at (Inproc name) may = refl
local_at (Tcp address) may = absurd may

local_line : (line : Call) → MayAskLine line → is_local_line line ≡ true
local_line (call.Socket kind options) may = refl
local_line (call.Bind place at) may = local_at at may
local_line (call.Connect place to) may = local_at to may
local_line (call.Send place m) may = refl
local_line (call.Recv place tries) may = refl
local_line (call.Subscribe place topic) may = refl
local_line (call.Unsubscribe place topic) may = refl
local_line (call.Unbind place at) may = refl
local_line (call.Disconnect place at) may = refl
local_line (call.Close place) may = refl
local_line call.Term may = refl

local_lines : (lines : List Line) → MayAskLines lines → are_local_lines lines ≡ true
local_lines [] may = refl
local_lines (line ∷ lines) may = and_from _ _ (local_line line.call may.0) (local_lines lines may.1)

pub local_script : (script : Script) → MayAskScript script → is_local_script script ≡ true
local_script [] may = refl
local_script (actor ∷ actors) may = and_from _ _ (local_lines actor.lines may.0) (local_script actors may.1)
