-- What is said of the ends that a Reap in a mailbox brings.
use Rattle.std.specs.Prelude.{◌≡◌, ◌==◌, ◌∷◌, [], ℕ, Bool, true, false, List, Option, Some, None, All, cond, filter, flat_map, is_some, map, refl}
use Rattle.std.proofs.Common.{sym, ap, ◌∙◌, subst}
use Rattle.std.proofs.lemmas.Bool.{eqb-true}
use Rattle.std.proofs.lemmas.List.Elements.{All-append, All-nil, All-cons, All-head, All-tail}
use Rattle.zq_base.specs.declared.ids.EndId.{EndId}
use Rattle.spec_control.specs.declared.entry.Item.{Item}
use Rattle.spec_control.specs.declared.entry.Joining.{Joining}
use Rattle.spec_control.specs.declared.letter.Word.{Word}
use Rattle.spec_control.specs.declared.letter.Word.TheVariants.{Own, Plug, TermReq, Term, TermAck, PipeBind, PipeTerm, PipeTermAck, Stop, Reap}
use Rattle.spec_control.specs.Names.{name_of}
use Rattle.spec_control.specs.Place.{is_here}
use Rattle.spec_control.specs.Rows.{obj}
use Rattle.spec_control.specs.Control.{Control, ends_of, owner_of, place_of}
use Rattle.spec_control.specs.ControlRun.{Joins, is_between, taken_over}
use Rattle.control_laws.proofs.ListLemmas.{never}
use Rattle.desk.specs.declared.given.Given.{Given}
use Rattle.desk.specs.declared.given.Parting.{Parting}
use Rattle.desk.specs.declared.load.Load.{Load}
use Rattle.desk.specs.declared.load.Load.TheVariants.{Halves, Plug as BringsPlug, Writer, Ends}
use Rattle.desk.specs.Holding.{given_as}
use Rattle.desk.specs.Load.{AreEndsOfClosed, BringsAll, BringsEnds, Carries, ComeToReaper, IsNamed, ReapsAll, given_by}
use Rattle.ctl_state.specs.declared.command.Command.{Command}
use Rattle.ctl_state.specs.Boxes.{mail_at}
use Rattle.mailbox.specs.Mail.{Mail}
use Rattle.ctl_plane.specs.Carried.{AreCarried, IsCarried, given_in}
use Rattle.ctl_plane.specs.Giving.{AreOnTheirWay, IsOnItsWay}
use Rattle.ctl_plane.proofs.ReapLemmas.{all_of_map}

-- an end of this object that is there
record IsThereOf (c : Control) (i : ℕ) (e : EndId) : Type 0 where
  pub owner : owner_of c e ≡ i
  pub here : is_here (place_of c e) ≡ true

module _ (c : Control) (i : ℕ) where
  own_ends : (es : List EndId) → All (λ e. owner_of c e ≡ i) (filter (λ e. owner_of c e == i) es)
  own_ends [] = All-nil (λ e. owner_of c e ≡ i)
  own_ends (e ∷ es) = by (owner_of c e == i) refl (own_ends es)
    where
      by : (b : Bool) → (owner_of c e == i) ≡ b → All (λ x. owner_of c x ≡ i) (filter (λ x. owner_of c x == i) es) →
          All (λ x. owner_of c x ≡ i) (cond b (e ∷ filter (λ x. owner_of c x == i) es) (filter (λ x. owner_of c x == i) es))
      by true is rest = All-cons (λ x. owner_of c x ≡ i) e (filter (λ x. owner_of c x == i) es) (eqb-true (owner_of c e) i is) rest
      by false is rest = rest

  taken_there : (es : List EndId) → All (λ e. owner_of c e ≡ i) es → All (λ (x : Joins). IsThereOf c i x.end) (map (λ e. taken_over c e) (filter (λ e. is_here (place_of c e)) es))
  taken_there [] all = All-nil (λ (x : Joins). IsThereOf c i x.end)
  taken_there (e ∷ es) all = by (is_here (place_of c e)) refl (taken_there es (All-tail (λ x. owner_of c x ≡ i) e es all))
    where
      by : (b : Bool) → is_here (place_of c e) ≡ b → All (λ (x : Joins). IsThereOf c i x.end) (map (λ x. taken_over c x) (filter (λ x. is_here (place_of c x)) es)) →
          All (λ (x : Joins). IsThereOf c i x.end) (map (λ x. taken_over c x) (cond b (e ∷ filter (λ x. is_here (place_of c x)) es) (filter (λ x. is_here (place_of c x)) es)))
      by true is rest = All-cons (λ (x : Joins). IsThereOf c i x.end) (taken_over c e) (map (λ x. taken_over c x) (filter (λ x. is_here (place_of c x)) es)) (record { owner = All-head (λ x. owner_of c x ≡ i) e es all; here = is }) rest
      by false is rest = rest

module _ {N O I : Type 0} (out_name : O → N) (in_name : I → N) (c : Control) (names : EndId → Option N) where
  module _ (socket : ℕ) (p : Parting N O I) (ends : AreEndsOfClosed out_name in_name names p) (come : ComeToReaper c socket p) where
    named : All (λ (g : Given N O I). IsNamed out_name in_name names (given_as out_name in_name g)) p.ends.items
    named =
        all_of_map (IsNamed out_name in_name names) (given_as out_name in_name) p.ends.items
        (subst (λ (js : List (Joining N)). All (IsNamed out_name in_name names) js) ends.listed ends.named)

    there : All (λ (g : Given N O I). IsThereOf c socket g.end) p.ends.items
    there =
        all_of_map (λ (j : Joining N). IsThereOf c socket j.end) (given_as out_name in_name) p.ends.items
        (subst (λ (js : List (Joining N)). All (λ (j : Joining N). IsThereOf c socket j.end) js) ends.listed
        (all_of_map (λ (x : Joins). IsThereOf c socket x.end) (λ (j : Joining N). let x : Joins = record { end = j.end; peer = j.peer; met = j.met } in x) p.joined
        (subst (λ (xs : List Joins). All (λ (x : Joins). IsThereOf c socket x.end) xs) (sym come.all.joined) (taken_there c socket (ends_of socket c) (own_ends c socket c.attached)))))

    reaped : AreOnTheirWay in_name c names p.ends.items
    reaped = λ k g lt.
        let name = named k g lt in
        let is = there k g lt in
        record {
          written = name.written;
          read = name.read;
          here = is.here;
          state = come.all.states k g lt;
          writes = come.all.writers k g lt;
          between = ap (λ (o : ℕ). is_between (obj c.rows o)) is.owner ∙ come.between;
        }

  -- what a Reap brings is its socket's
  pub brought_own : (socket : ℕ) (load : Option (Load N O I)) → BringsEnds out_name in_name names load → BringsAll c socket load → All (λ g. owner_of c g.end ≡ socket) (given_by load)
  brought_own socket None brings all = absurd brings
  brought_own socket (Some (Halves h)) brings all = absurd brings
  brought_own socket (Some (BringsPlug address halves)) brings all = absurd brings
  brought_own socket (Some (Writer o)) brings all = absurd brings
  brought_own socket (Some (Ends p)) brings all = λ k g lt. (there socket p brings all k g lt).owner

  -- what one command brings
  brought : (word : Word) (load : Option (Load N O I)) → Carries out_name in_name names word load → ReapsAll c word load → AreOnTheirWay in_name c names (given_by load)
  brought word None carries reaps = All-nil (IsOnItsWay in_name c names)
  brought word (Some (Halves h)) carries reaps = All-nil (IsOnItsWay in_name c names)
  brought word (Some (BringsPlug address halves)) carries reaps = All-nil (IsOnItsWay in_name c names)
  brought word (Some (Writer o)) carries reaps = All-nil (IsOnItsWay in_name c names)
  brought word (Some (Ends p)) carries reaps = by word carries reaps
    where
      empty : Some (Ends p) ≡ None → ⊥
      empty is = never (sym (ap is_some is))

      by : (w : Word) → Carries out_name in_name names w (Some (Ends p)) → ReapsAll c w (Some (Ends p)) → AreOnTheirWay in_name c names p.ends.items
      by (Own child) is all = absurd (empty is)
      by (Plug end) is all = absurd is
      by (TermReq child) is all = absurd (empty is)
      by Term is all = absurd (empty is)
      by (TermAck child) is all = absurd (empty is)
      by (PipeBind e peer) is all = absurd is
      by (PipeTerm e) is all = absurd (empty is)
      by (PipeTermAck e) is all = absurd is
      by Stop is all = absurd (empty is)
      by (Reap socket) is all = reaped socket.0 p is all

module _ {N O I S : Type 0} (out_name : O → N) (in_name : I → N) (c : Control) (items : List (Item N S)) where
  abbrev OnWay : Given N O I → Type 0
  OnWay g = IsOnItsWay in_name c (name_of items) g

  all_brought : (commands : List (Command (Load N O I))) → All (λ command. IsCarried out_name in_name items c command) commands → All OnWay (flat_map (λ command. given_by command.load) commands)
  all_brought [] all = All-nil OnWay
  all_brought (command ∷ commands) all =
      let first = All-head (λ (x : Command (Load N O I)). IsCarried out_name in_name items c x) command commands all in
      All-append OnWay (given_by command.load) (flat_map (λ (x : Command (Load N O I)). given_by x.load) commands)
      (brought out_name in_name c (name_of items) command.letter.word command.load first.carries first.reaps)
      (all_brought commands (All-tail (λ (x : Command (Load N O I)). IsCarried out_name in_name items c x) command commands all))

  -- the ends of closed sockets that are on their way are as they were given
  pub on_their_way : (boxes : List (Mail (Command (Load N O I)))) → AreCarried out_name in_name items c boxes → AreOnTheirWay in_name c (name_of items) (given_in boxes)
  on_their_way boxes carried = all_brought (mail_at boxes 0).commands (carried 0)
