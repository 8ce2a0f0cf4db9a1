-- Which sockets are closed and not taken over, once one more is closed.
use Rattle.std.specs.Prelude.{◌≡◌, ℕ, true, refl}
use Rattle.std.proofs.Common.{ap, sym, ◌∙◌, subst, inl, inr}
use Rattle.std.proofs.lemmas.Bool.{cases_eq}
use Rattle.std.proofs.lemmas.List.{get_or-set_same, get_or-set_other}
use Rattle.spec_control.specs.declared.letter.Word.{Word}
use Rattle.spec_control.specs.declared.letter.Word.TheVariants.{Own, Plug, TermReq, Term, TermAck, PipeBind, PipeTerm, PipeTermAck, Stop, Reap}
use Rattle.spec_control.specs.Row.{nobody, is_socket, AsksOver, link_after}
use Rattle.spec_control.specs.Rows.{Rows, obj, with_object}
use Rattle.spec_control.specs.Control.{Control}
use Rattle.spec_control.specs.ControlRun.{IsOpenSocket, is_between}
use Rattle.control_laws.proofs.ListLemmas.{and}
use Rattle.control_laws.proofs.SoundLemmas.{socket_there}
use Rattle.ctl_plane.proofs.ReapLemmas.{ReapBetween}

module _ (c : Control) (o : ℕ) (is_open : IsOpenSocket (obj c.rows o)) where
  now : Rows
  now = with_object o (link_after AsksOver (obj c.rows o)) c.rows

  pub closed_between : is_between (obj (with_object o (link_after AsksOver (obj c.rows o)) c.rows) o) ≡ true
  closed_between =
      ap is_between (get_or-set_same c.rows.objects o (link_after AsksOver (obj c.rows o)) nobody (socket_there c.rows o is_open.socket))
      ∙ and (is_socket (obj c.rows o).kind) true is_open.socket refl

  pub stays_between : (i : ℕ) → is_between (obj c.rows i) ≡ true → is_between (obj (with_object o (link_after AsksOver (obj c.rows o)) c.rows) i) ≡ true
  stays_between i between =
      elim (cases_eq i o) [
        | inl same ↦ subst (λ (n : ℕ). is_between (obj (with_object o (link_after AsksOver (obj c.rows o)) c.rows) n) ≡ true) (sym same) closed_between
        | inr other ↦ ap is_between (get_or-set_other c.rows.objects o i (link_after AsksOver (obj c.rows o)) nobody other) ∙ between
      ]

  pub close_between : (word : Word) → ReapBetween c.rows word → ReapBetween (with_object o (link_after AsksOver (obj c.rows o)) c.rows) word
  close_between (Own child) h = tt
  close_between (Plug end) h = tt
  close_between (TermReq child) h = tt
  close_between Term h = tt
  close_between (TermAck child) h = tt
  close_between (PipeBind e peer) h = tt
  close_between (PipeTerm e) h = tt
  close_between (PipeTermAck e) h = tt
  close_between Stop h = tt
  close_between (Reap socket) h = stays_between socket.0 h
