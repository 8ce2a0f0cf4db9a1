-- What the commands in the mailboxes carry, through the small changes of the mailboxes.
use Rattle.std.specs.Prelude.{◌≡◌, ◌<◌, ◌++◌, ◌∷◌, [], ℕ, true, false, List, Option, Some, None, All, length, flat_map, refl}
use Rattle.std.proofs.Common.{sym, ap, ◌∙◌, subst, inl, inr}
use Rattle.std.proofs.lemmas.Bool.{cases_eq}
use Rattle.std.proofs.lemmas.List.{append-nil, get_or-set_same, get_or-set_other}
use Rattle.std.proofs.lemmas.List.Concat.{flat_map-append}
use Rattle.std.proofs.lemmas.List.Elements.{All-cons, All-nil, All-head, All-tail, All-append, All-weaker}
use Rattle.mailbox.specs.Mail.{Mail, no_mail, with_sent, with_put_back}
use Rattle.zq_base.specs.Ends.{other_end}
use Rattle.zq_base.specs.declared.ids.EndId.{EndId}
use Rattle.spec_control.specs.declared.entry.Item.{Item}
use Rattle.spec_control.specs.declared.entry.Joining.{Joining}
use Rattle.spec_control.specs.declared.letter.Word.{Word}
use Rattle.spec_control.specs.declared.letter.Word.TheVariants.{Own, Plug, TermReq, Term, TermAck, PipeBind, PipeTerm, PipeTermAck, Stop, Reap}
use Rattle.spec_control.specs.Names.{name_of}
use Rattle.spec_control.specs.Control.{Control}
use Rattle.control_laws.proofs.ListLemmas.{never}
use Rattle.desk.specs.declared.load.Load.{Load}
use Rattle.desk.specs.declared.load.Load.TheVariants.{Halves, Plug as BringsPlug, Writer, Ends}
use Rattle.desk.specs.declared.given.Given.{Given}
use Rattle.desk.specs.declared.halves.NamedHalves.{NamedHalves}
use Rattle.desk.specs.Load.{AreHalvesFor, AreHalvesOf, IsNamed, BringsHalvesOf, BringsPlugOf, BringsWriterTo, BringsEnds, Carries, ReapsAll, brings_ends, given_by}
use Rattle.ctl_state.specs.declared.command.Command.{Command}
use Rattle.ctl_state.specs.Boxes.{mail_at, with_mail, tells_object, IsBareTold, PutsBare, Takes}
use Rattle.ctl_state.proofs.StandLemmas.{roomy}
pub use Rattle.ctl_moves.proofs.HolderLemmas.{told_carries}
use Rattle.ctl_plane.specs.Carried.{given_in, IsCarried, AreCarried}

module _ {N O I : Type 0} (out_name : O → N) (in_name : I → N) where
  module _ (early late : EndId → Option N) (more : (e : EndId) (n : N) → early e ≡ Some n → late e ≡ Some n) where
    are_later : (e : EndId) (h : NamedHalves N O I) → AreHalvesOf out_name in_name early e h → AreHalvesOf out_name in_name late e h
    are_later e h is = record { out = is.out; input = is.input; written = more e h.written is.written; read = more (other_end e) h.read is.read }

    halves_later : (e : EndId) (load : Option (Load N O I)) → BringsHalvesOf out_name in_name early e load → BringsHalvesOf out_name in_name late e load
    halves_later e (Some (Halves h)) is = are_later e h is
    halves_later e (Some (BringsPlug address halves)) is = is
    halves_later e (Some (Writer o)) is = is
    halves_later e (Some (Ends p)) is = is
    halves_later e None is = is

    plug_later : (end : Option EndId) (load : Option (Load N O I)) → BringsPlugOf out_name in_name early end load → BringsPlugOf out_name in_name late end load
    plug_later end (Some (Halves h)) is = is
    plug_later end (Some (BringsPlug address halves)) is = by end halves is
      where
        by : (end : Option EndId) (halves : Option (NamedHalves N O I)) → AreHalvesFor out_name in_name early end halves → AreHalvesFor out_name in_name late end halves
        by None None is = is
        by None (Some h) is = is
        by (Some e) None is = is
        by (Some e) (Some h) is = are_later e h is
    plug_later end (Some (Writer o)) is = is
    plug_later end (Some (Ends p)) is = is
    plug_later end None is = is

    writer_later : (e : EndId) (load : Option (Load N O I)) → BringsWriterTo out_name in_name early e load → BringsWriterTo out_name in_name late e load
    writer_later e (Some (Halves h)) is = is
    writer_later e (Some (BringsPlug address halves)) is = is
    writer_later e (Some (Writer o)) is = more (other_end e) (out_name o) is
    writer_later e (Some (Ends p)) is = is
    writer_later e None is = is

    named_later : (j : Joining N) → IsNamed out_name in_name early j → IsNamed out_name in_name late j
    named_later j is = record { written = more j.end j.written is.written; read = more (other_end j.end) j.read is.read }

    ends_later : (load : Option (Load N O I)) → BringsEnds out_name in_name early load → BringsEnds out_name in_name late load
    ends_later (Some (Halves h)) is = is
    ends_later (Some (BringsPlug address halves)) is = is
    ends_later (Some (Writer o)) is = is
    ends_later (Some (Ends p)) is = record { listed = is.listed; named = All-weaker (IsNamed out_name in_name early) (IsNamed out_name in_name late) named_later p.joined is.named }
    ends_later None is = is

    -- names that are known stay so, and with them what is carried
    pub carries_later : (word : Word) (load : Option (Load N O I)) → Carries out_name in_name early word load → Carries out_name in_name late word load
    carries_later (Own child) load is = is
    carries_later (Plug end) load is = plug_later end load is
    carries_later (TermReq child) load is = is
    carries_later Term load is = is
    carries_later (TermAck child) load is = is
    carries_later (PipeBind e peer) load is = halves_later e load is
    carries_later (PipeTerm e) load is = is
    carries_later (PipeTermAck e) load is = writer_later e load is
    carries_later Stop load is = is
    carries_later (Reap socket) load is = ends_later load is

  module _ (names : EndId → Option N) where
    halves_no_ends : (e : EndId) (load : Option (Load N O I)) → BringsHalvesOf out_name in_name names e load → given_by load ≡ []
    halves_no_ends e (Some (Halves h)) is = refl
    halves_no_ends e (Some (BringsPlug address halves)) is = absurd is
    halves_no_ends e (Some (Writer o)) is = absurd is
    halves_no_ends e (Some (Ends p)) is = absurd is
    halves_no_ends e None is = absurd is

    plug_no_ends : (end : Option EndId) (load : Option (Load N O I)) → BringsPlugOf out_name in_name names end load → given_by load ≡ []
    plug_no_ends end (Some (Halves h)) is = absurd is
    plug_no_ends end (Some (BringsPlug address halves)) is = refl
    plug_no_ends end (Some (Writer o)) is = absurd is
    plug_no_ends end (Some (Ends p)) is = absurd is
    plug_no_ends end None is = absurd is

    writer_no_ends : (e : EndId) (load : Option (Load N O I)) → BringsWriterTo out_name in_name names e load → given_by load ≡ []
    writer_no_ends e (Some (Halves h)) is = absurd is
    writer_no_ends e (Some (BringsPlug address halves)) is = absurd is
    writer_no_ends e (Some (Writer o)) is = refl
    writer_no_ends e (Some (Ends p)) is = absurd is
    writer_no_ends e None is = absurd is

    -- no other command brings a closed socket's ends
    pub brings_none : (word : Word) (load : Option (Load N O I)) → brings_ends word ≡ false → Carries out_name in_name names word load → given_by load ≡ []
    brings_none (Own child) load none is = ap given_by is
    brings_none (Plug end) load none is = plug_no_ends end load is
    brings_none (TermReq child) load none is = ap given_by is
    brings_none Term load none is = ap given_by is
    brings_none (TermAck child) load none is = ap given_by is
    brings_none (PipeBind e peer) load none is = halves_no_ends e load is
    brings_none (PipeTerm e) load none is = ap given_by is
    brings_none (PipeTermAck e) load none is = writer_no_ends e load is
    brings_none Stop load none is = ap given_by is
    brings_none (Reap socket) load none is = absurd (never (sym none))

  -- no other command brings a closed socket's ends
  pub no_reap : (c : Control) (word : Word) (load : Option (Load N O I)) → brings_ends word ≡ false → ReapsAll c word load
  no_reap c (Own child) load none = tt
  no_reap c (Plug end) load none = tt
  no_reap c (TermReq child) load none = tt
  no_reap c Term load none = tt
  no_reap c (TermAck child) load none = tt
  no_reap c (PipeBind e peer) load none = tt
  no_reap c (PipeTerm e) load none = tt
  no_reap c (PipeTermAck e) load none = tt
  no_reap c Stop load none = tt
  no_reap c (Reap socket) load none = absurd (never (sym none))

  pub told_no_ends : (word : Word) → tells_object word ≡ true → brings_ends word ≡ false
  told_no_ends (Own child) h = refl
  told_no_ends (Plug end) h = refl
  told_no_ends (TermReq child) h = refl
  told_no_ends Term h = refl
  told_no_ends (TermAck child) h = refl
  told_no_ends (PipeBind e peer) h = refl
  told_no_ends (PipeTerm e) h = refl
  told_no_ends (PipeTermAck e) h = refl
  told_no_ends Stop h = refl
  told_no_ends (Reap socket) h = absurd (never h)

  module _ {S : Type 0} (items : List (Item N S)) (c : Control) where
    abbrev Is : Command (Load N O I) → Type 0
    Is command = IsCarried out_name in_name items c command

    -- ---- objects were told
    told_is : (command : Command (Load N O I)) → IsBareTold command → Is command
    told_is command told = record { carries = told_carries out_name in_name (name_of items) command.letter.word command.load told.empty told.word; reaps = no_reap c command.letter.word command.load (told_no_ends command.letter.word told.word) }

    pub told_carried : (old new : List (Mail (Command (Load N O I)))) → PutsBare old new → AreCarried out_name in_name items c old → AreCarried out_name in_name items c new
    told_carried old new puts all m =
        let g = puts.grows m in
        subst (λ (xs : List (Command (Load N O I))). All Is xs) (sym g.commands)
        (All-append Is (mail_at old m).commands g.more (all m) (All-weaker IsBareTold Is told_is g.more g.bare))

    -- ---- a command was taken, or put back
    pub taken_carried : (k : ℕ) (command : Command (Load N O I)) (old new : List (Mail (Command (Load N O I)))) → Takes k command old new → AreCarried out_name in_name items c old → AreCarried out_name in_name items c new
    taken_carried k command old new took all m =
        elim (cases_eq m k) [
          | inl same ↦
              subst (λ (n : ℕ). All Is (mail_at new n).commands) (sym same)
              (All-tail Is command (mail_at new k).commands (subst (λ (xs : List (Command (Load N O I))). All Is xs) took.front (all k)))
          | inr other ↦ subst (λ (mail : Mail (Command (Load N O I))). All Is mail.commands) (sym (took.others m other)) (all m)
        ]

    pub taken_carries : (k : ℕ) (command : Command (Load N O I)) (old new : List (Mail (Command (Load N O I)))) → Takes k command old new → AreCarried out_name in_name items c old →
        IsCarried out_name in_name items c command
    taken_carries k command old new took all =
        All-head Is command (mail_at new k).commands (subst (λ (xs : List (Command (Load N O I))). All Is xs) took.front (all k))

    set_carried : (k : ℕ) (mail : Mail (Command (Load N O I))) (boxes : List (Mail (Command (Load N O I)))) → k < length boxes → All Is mail.commands →
        AreCarried out_name in_name items c boxes → AreCarried out_name in_name items c (with_mail k mail boxes)
    set_carried k mail boxes there is all m =
        elim (cases_eq m k) [
          | inl same ↦
              subst (λ (n : ℕ). All Is (mail_at (with_mail k mail boxes) n).commands) (sym same)
              (subst (λ (x : Mail (Command (Load N O I))). All Is x.commands) (sym (get_or-set_same boxes k mail no_mail there)) is)
          | inr other ↦ subst (λ (x : Mail (Command (Load N O I))). All Is x.commands) (sym (get_or-set_other boxes k m mail no_mail other)) (all m)
        ]

    pub sent_carried : (k : ℕ) (command : Command (Load N O I)) (boxes : List (Mail (Command (Load N O I)))) → 0 < (mail_at boxes k).spare → IsCarried out_name in_name items c command →
        AreCarried out_name in_name items c boxes → AreCarried out_name in_name items c (with_mail k (with_sent command (mail_at boxes k)) boxes)
    sent_carried k command boxes room is all =
        set_carried k (with_sent command (mail_at boxes k)) boxes (roomy boxes k room)
        (All-append Is (mail_at boxes k).commands (command ∷ []) (all k) (All-cons Is command [] is (All-nil Is))) all

-- ---- the ends on their way to the reaper
module _ {N O I : Type 0} where
  abbrev of_command : Command (Load N O I) → List (Given N O I)
  of_command command = given_by command.load

  told_none : (more : List (Command (Load N O I))) → All IsBareTold more → flat_map of_command more ≡ []
  told_none [] all = refl
  told_none (x ∷ xs) all =
      ap (λ (ys : List (Given N O I)). ys ++ flat_map of_command xs) (ap given_by (All-head IsBareTold x xs all).empty) ∙ told_none xs (All-tail IsBareTold x xs all)

  pub told_given : (old new : List (Mail (Command (Load N O I)))) → PutsBare old new → given_in new ≡ given_in old
  told_given old new puts =
      let g = puts.grows 0 in
      ap (flat_map of_command) g.commands ∙ flat_map-append of_command (mail_at old 0).commands g.more
      ∙ ap (λ (ys : List (Given N O I)). given_in old ++ ys) (told_none g.more g.bare) ∙ append-nil (given_in old)

  pub taken_given : (k : ℕ) (command : Command (Load N O I)) (old new : List (Mail (Command (Load N O I)))) → Takes k command old new → given_by command.load ≡ [] → given_in new ≡ given_in old
  taken_given k command old new took none =
      elim (cases_eq 0 k) [
        | inl same ↦
            let front = subst (λ (n : ℕ). (mail_at old n).commands ≡ command ∷ (mail_at new n).commands) (sym same) took.front in
            sym (ap (flat_map of_command) front ∙ ap (λ (ys : List (Given N O I)). ys ++ given_in new) none)
        | inr other ↦ ap (λ (mail : Mail (Command (Load N O I))). flat_map of_command mail.commands) (took.others 0 other)
      ]

  set_given : (k : ℕ) (mail : Mail (Command (Load N O I))) (boxes : List (Mail (Command (Load N O I)))) → k < length boxes → flat_map of_command mail.commands ≡ flat_map of_command (mail_at boxes k).commands →
      given_in (with_mail k mail boxes) ≡ given_in boxes
  set_given k mail boxes there same =
      elim (cases_eq 0 k) [
        | inl here ↦
            subst (λ (n : ℕ). flat_map of_command (mail_at (with_mail k mail boxes) n).commands ≡ flat_map of_command (mail_at boxes n).commands) (sym here)
            (ap (λ (x : Mail (Command (Load N O I))). flat_map of_command x.commands) (get_or-set_same boxes k mail no_mail there) ∙ same)
        | inr other ↦ ap (λ (x : Mail (Command (Load N O I))). flat_map of_command x.commands) (get_or-set_other boxes k 0 mail no_mail other)
      ]

  pub sent_given : (k : ℕ) (command : Command (Load N O I)) (boxes : List (Mail (Command (Load N O I)))) → 0 < (mail_at boxes k).spare → given_by command.load ≡ [] →
      given_in (with_mail k (with_sent command (mail_at boxes k)) boxes) ≡ given_in boxes
  sent_given k command boxes room none =
      set_given k (with_sent command (mail_at boxes k)) boxes (roomy boxes k room)
      (flat_map-append of_command (mail_at boxes k).commands (command ∷ []) ∙ ap (λ (ys : List (Given N O I)). flat_map of_command (mail_at boxes k).commands ++ ys) (append-nil (given_by command.load) ∙ none)
      ∙ append-nil (flat_map of_command (mail_at boxes k).commands))

  -- a command that is put back stands where it stood
  pub back_same : (k : ℕ) (command : Command (Load N O I)) (old mid : List (Mail (Command (Load N O I)))) → Takes k command old mid → k < length mid → (m : ℕ) →
      (mail_at (with_mail k (with_put_back command (mail_at mid k)) mid) m).commands ≡ (mail_at old m).commands
  back_same k command old mid took there m =
      elim (cases_eq m k) [
        | inl same ↦
            subst (λ (n : ℕ). (mail_at (with_mail k (with_put_back command (mail_at mid k)) mid) n).commands ≡ (mail_at old n).commands) (sym same)
            (ap (λ (x : Mail (Command (Load N O I))). x.commands) (get_or-set_same mid k (with_put_back command (mail_at mid k)) no_mail there) ∙ sym took.front)
        | inr other ↦
            ap (λ (x : Mail (Command (Load N O I))). x.commands) (get_or-set_other mid k m (with_put_back command (mail_at mid k)) no_mail other)
            ∙ ap (λ (x : Mail (Command (Load N O I))). x.commands) (took.others m other)
      ]
