-- The functions of the cycle `put_decimal` of `text` in their loops and calls: what stays, and what falls. Assumes nothing.

use Rattle.text.proofs.+put_decimal.Given as given

abbrev pub decreases-put_decimal : given.decreases-put_decimal
decreases-put_decimal l =
    l.n
