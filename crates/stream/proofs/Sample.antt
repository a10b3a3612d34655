-- Document 01's sample: its four lines are the transcript of its two.
use Rattle.std.proofs.Common.{◌≡◌, ℕ, List, [], ◌++◌, length, replicate, refl, ap, ◌∙◌, append-nil}
use lib.ListN.{length-replicate}
use Rattle.device.specs.Layout.{layout, state_words}
use Rattle.device.specs.State.{reset_state}
use Rattle.print.specs.Bytes.{bytes}
use Rattle.script.specs.Command.{command_of}
use Rattle.response.specs.Response.{left_by, text_of}
use Rattle.response.proofs.Sample.{line1, line2, sample}
use Rattle.stream.specs.Transcript.{before, end_text, line, lines_in, printed, rest, transcript}
use Rattle.stream.proofs.Whole.{started}

two-lines : lines_in (bytes "mem\t2\t00000000\t4\tr\t1\ts\tp\nmap\t2\n") ≡ line line1 (line line2 (rest []))
unfolding lines_in before
two-lines = refl

pub sample-transcript : transcript (bytes "mem\t2\t00000000\t4\tr\t1\ts\tp\nmap\t2\n")
    ≡ bytes "ans\t0\t00000000\nguard\t2\nspan\t00000000\t000fffff\t8282000000000000\nend\t1\n"
unfolding transcript printed end_text
sample-transcript =
    let m : List ℕ = replicate state_words 0 in
    let sized : length m ≡ state_words = length-replicate {A = ℕ} state_words 0 in
    let w = layout reset_state in
    ap (printed 1 w) two-lines
    ∙ ap (λ (t : List ℕ). text_of (command_of line1) 1 w ++ t) (append-nil (text_of (command_of line2) 2 (left_by (command_of line1) w)))
    ∙ rw (← started m sized) (sample m sized)
