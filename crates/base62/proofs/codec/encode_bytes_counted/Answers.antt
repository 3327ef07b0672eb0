use Rattle.base62.proofs.codec.encode_bytes_counted.Goals as goal

pub returns : goal.returns
returns g c = rw (c.number.ensures, c.standard_tables.ensures.letters) at c.encode_over.ensures
