-- Document 01's sample: what is printed.
use Rattle.std.specs.Prelude.{◌++◌, ◌≡◌, refl}
use Rattle.print.specs.Bytes.{bytes}
use Rattle.print.specs.Print.{digits_of, width_in, width_of, decimal_text, answer_line, span_line, diff_line, label_line, guard_line, end_line, bad_line}

-- the whole output
sample : answer_line 0 0 ++ guard_line 2 ++ span_line 0 0x000f_ffff 0x8282_0000_0000_0000 ++ end_line 1
    ≡ bytes "ans\t0\t00000000\nguard\t2\nspan\t00000000\t000fffff\t8282000000000000\nend\t1\n"
unfolding answer_line label_line span_line decimal_text digits_of width_of width_in
sample = refl

-- lines count past 2^32
bad : bad_line 18446744073709551615 ≡ bytes "bad\t18446744073709551615\n"
unfolding label_line decimal_text digits_of width_of width_in
bad = refl

-- a row of what differs: CID 1 and 7 may no longer write, nonsecure and privileged
differing : diff_line 0x1000 0x1fff 0x8282_0000_8200_0000 0x8282_0000_0000_0000 2
    ≡ bytes "diff\t00001000\t00001fff\t8282000082000000\t8282000000000000\t2\n"
unfolding diff_line decimal_text digits_of width_of width_in
differing = refl
