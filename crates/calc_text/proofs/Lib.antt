mod HeadFaults
